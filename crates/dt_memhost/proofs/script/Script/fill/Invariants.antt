use Rattle.std.proofs.Common.{◌≡◌, ◌%◌, map, take}
use Rattle.dt_memhost.specs.Script.{after_draws, words_of}
use Rattle.dt_memhost.proofs.script.Script.fill.Given as goal

abbrev pub invariant-loop-byte : goal.invariant-loop-byte
invariant-loop-byte l = record {
  bytes : take l.byte-index l.buf ≡ map (λ word. word % 256) (words_of l.byte-index l.fn.self);
  after : l.self ≡ after_draws l.byte-index l.fn.self;
}
