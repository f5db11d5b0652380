use Rattle.std.proofs.Common.{◌≡◌, ℕ, ◌+◌, ◌%◌, ◌<◌, List, [], ◌∷◌, ◌++◌, length, map, take, slice_set, refl, sym, ap, ◌∙◌, add-one, arith}
use Rattle.std.proofs.Math.Seq.{take-suc-set, take-length}
use Rattle.std.proofs.lemmas.List.{map-append}
use Rattle.dt_memhost.specs.Script.{Script, after_draw, after_draws, coming_word, words_of}
use Rattle.dt_memhost.proofs.Arranged.{words_of-none, picked_all-none}
use Rattle.dt_memhost.proofs.Worded.{next_words-push, after_words-push}
use Rattle.dt_memhost.proofs.script.Script.fill.Goals as goal

-- one byte more
filled : (buf : List ℕ) (i byte : ℕ) (start before : Script) → i < length buf → take i buf ≡ map (λ word. word % 256) (words_of i start) → before ≡ after_draws i start → byte ≡ coming_word before % 256 → take (i + 1) (slice_set buf i byte) ≡ map (λ word. word % 256) (words_of (i + 1) start)
filled buf i byte start before h prefix stands is =
    ap (λ k. take k (slice_set buf i byte)) (add-one i)
    ∙ take-suc-set buf i byte h
    ∙ ap (λ xs. xs ++ byte ∷ []) prefix
    ∙ ap (λ b. map (λ word. word % 256) (words_of i start) ++ b ∷ []) (is ∙ ap (λ s. coming_word s % 256) stands)
    ∙ sym (map-append (λ word. word % 256) (words_of i start) (coming_word (after_draws i start) ∷ []))
    ∙ ap (map (λ word. word % 256)) (sym (next_words-push i start.picks))

pub loop-byte-init : goal.loop-byte-init
loop-byte-init c = record {
  bytes = sym (ap (map (λ word. word % 256)) (words_of-none c.args.self.now 0 refl));
  after = sym (picked_all-none c.args.self.now 0 refl);
}

pub loop-byte-preserved : goal.loop-byte-preserved
loop-byte-preserved c =
    let start = c.args.self.now in
    let i = c.loop-byte.byte-index in
    record {
      bytes = filled c.loop-byte.buf i c.byte.result start c.loop-byte.self (omega arith) c.loop-byte.invariant.bytes c.loop-byte.invariant.after c.byte.ensures.word;
      after =
          c.byte.ensures.after
          ∙ ap after_draw c.loop-byte.invariant.after
          ∙ ap (λ picks. record start { picks = picks }) (sym (after_words-push i start.picks));
    }

-- all of it was filled
all_filled : (buf : List ℕ) (i n : ℕ) (start : Script) → i ≡ n → n ≡ length buf → take i buf ≡ map (λ word. word % 256) (words_of i start) → buf ≡ map (λ word. word % 256) (words_of n start)
all_filled buf i n start same size prefix =
    sym (take-length buf)
    ∙ ap (λ k. take k buf) (sym (same ∙ size))
    ∙ prefix
    ∙ ap (λ k. map (λ word. word % 256) (words_of k start)) same

pub returns-clause-bytes : goal.returns-clause-bytes
returns-clause-bytes c =
    all_filled c.loop-byte.buf c.loop-byte.byte-index (length c.args.buf.now) c.args.self.now (omega arith) (omega arith) c.loop-byte.invariant.bytes

pub returns-clause-after : goal.returns-clause-after
returns-clause-after c =
    let whole : c.loop-byte.byte-index ≡ length c.args.buf.now = omega arith in
    c.loop-byte.invariant.after ∙ ap (λ n. after_draws n c.args.self.now) whole
