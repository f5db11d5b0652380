-- What a scene is after a file was written, and the parts of a write.
use Rattle.std.proofs.Common.{◌≡◌, ◌≢◌, ℕ, true, List, [], ◌∷◌, Some, Result, Ok, Err, IsOk, refl, sym, ap, ◌∙◌, arith}
use Rattle.std.specs.Prelude.{not, if◌then◌else◌}
use Rattle.dt_base.specs.declared.errno.Errno.TheVariants.{BadF}
use Rattle.dt_fds.specs.Descriptions.{write_pipe}
use Rattle.dt_fds.specs.declared.desc.Desc.{Desc}
use Rattle.dt_fds.specs.declared.desc.DescKind.{DescKind}
use Rattle.dt_fds.specs.declared.desc.DescKind.TheVariants.{File, Dir, Device, PipeRead, PipeWrite, Input, Stream}
use Rattle.dt_space.specs.declared.access.Miss.{Miss}
use Rattle.dt_tree.specs.Calls.{TreeAnswer, tree_answer}
use Rattle.dt_tree.specs.FileTree.{FileTree}
use Rattle.dt_iocalls.specs.declared.ranges.Range.{Range}
use Rattle.dt_iocalls.specs.Offsets.{is_writable, offset_of}
use Rattle.dt_iocalls.specs.Ranges.{gathered_bytes, total_len}
use Rattle.dt_iocalls.specs.Writing.{write_result_reply, on_bytes, write_reply, bytes_write_reply, write_reply_by_kind, pipe_write_reply, device_write_reply, descriptor_write_reply}
use Rattle.dt_iocalls.specs.inner.Written.{some_bytes, ranges_write_reply}
use Rattle.dt_iocalls.proofs.Pieces.{gathered-length}
use Rattle.dt_callbase.specs.Scene.{Scene, Reply, value_reply, description_of, on_description, refused_reply, stamp}

-- a file was written, and the time of that has passed
pub written_so : (s : Scene) (t : FileTree) (clock at count : ℕ) (u : Unit {0}) (call : ℕ → TreeAnswer (Unit {0})) → at ≡ stamp s → clock ≡ stamp s → call at ≡ tree_answer t u → write_result_reply s count (λ next. next) (call (stamp s)).answer (call (stamp s)).tree ≡ value_reply (record s { tree = t; clock = clock }) count
written_so s t clock at count u call is later e =
    ap (λ d. write_result_reply s count (λ next. next) d.answer d.tree) (ap call (sym is) ∙ e) ∙ ap (λ c. value_reply (record s { tree = t; clock = c }) count) (sym later)

-- the bytes of ranges are written by what the descriptor refers to
module _ (fd : ℕ) (ranges : List Range) (s : Scene) (desc : Desc) (found : description_of s fd ≡ Some desc) (may : is_writable desc ≡ true) where
  by-bytes : (bytes : Result (List ℕ) Miss) → on_bytes s bytes (λ bytes. bytes_write_reply fd desc bytes s) ≡ on_bytes s bytes (λ bytes. some_bytes (write_reply_by_kind fd desc.append (offset_of desc.spot) desc.kind) bytes s)
  by-bytes (Err miss) = refl
  by-bytes (Ok []) = refl
  by-bytes (Ok (byte ∷ bytes)) = refl

  pub written-whole : descriptor_write_reply fd ranges s ≡ ranges_write_reply (write_reply_by_kind fd desc.append (offset_of desc.spot) desc.kind) ranges s
  written-whole =
      ap (λ found. on_description s found (λ desc. write_reply fd ranges desc s)) found
      ∙ ap (λ b. if not b then refused_reply s BadF else on_bytes s (gathered_bytes s.space ranges) (λ bytes. bytes_write_reply fd desc bytes s)) may
      ∙ by-bytes (gathered_bytes s.space ranges)

  by-kind : (kind : DescKind) (q : ℕ) → write_pipe kind ≡ Some q → ranges_write_reply (write_reply_by_kind fd desc.append (offset_of desc.spot) kind) ranges s ≡ ranges_write_reply (pipe_write_reply fd) ranges s
  by-kind (PipeWrite r) q is = refl
  by-kind (PipeRead r) q is = absurd cc
  by-kind (File n) q is = absurd cc
  by-kind (Dir n) q is = absurd cc
  by-kind (Device n) q is = absurd cc
  by-kind Input q is = absurd cc
  by-kind (Stream stream) q is = absurd cc

  pub written-pipe : (q : ℕ) → write_pipe desc.kind ≡ Some q → descriptor_write_reply fd ranges s ≡ ranges_write_reply (pipe_write_reply fd) ranges s
  written-pipe q is = written-whole ∙ by-kind desc.kind q is

  pub written-device : (n : ℕ) → desc.kind ≡ Device n → descriptor_write_reply fd ranges s ≡ ranges_write_reply device_write_reply ranges s
  written-device n is = written-whole ∙ ap (λ kind. ranges_write_reply (write_reply_by_kind fd desc.append (offset_of desc.spot) kind) ranges s) is

-- with no bytes nothing is done
pub none-written : (write : List ℕ → Scene → Reply) (ranges : List Range) (s : Scene) → IsOk (gathered_bytes s.space ranges) → total_len ranges ≡ 0 → ranges_write_reply write ranges s ≡ value_reply s 0
none-written write ranges s ok none = by-found (gathered_bytes s.space ranges) refl ok
  where
    by-found : (found : Result (List ℕ) Miss) → gathered_bytes s.space ranges ≡ found → IsOk found → on_bytes s found (λ bytes. some_bytes write bytes s) ≡ value_reply s 0
    by-found (Ok []) is ok = refl
    by-found (Ok (byte ∷ bytes)) is ok = absurd (omega (arith, none, gathered-length s.space ranges (byte ∷ bytes) is))
    by-found (Err miss) is ok = absurd cc

pub some-written : (write : List ℕ → Scene → Reply) (ranges : List Range) (s : Scene) → IsOk (gathered_bytes s.space ranges) → total_len ranges ≢ 0 → ranges_write_reply write ranges s ≡ on_bytes s (gathered_bytes s.space ranges) (λ bytes. write bytes s)
some-written write ranges s ok some = by-found (gathered_bytes s.space ranges) refl ok
  where
    by-found : (found : Result (List ℕ) Miss) → gathered_bytes s.space ranges ≡ found → IsOk found → on_bytes s found (λ bytes. some_bytes write bytes s) ≡ on_bytes s found (λ bytes. write bytes s)
    by-found (Ok []) is ok = absurd (some (sym (gathered-length s.space ranges [] is)))
    by-found (Ok (byte ∷ bytes)) is ok = refl
    by-found (Err miss) is ok = absurd cc

-- a device takes all bytes
pub device-written : (ranges : List Range) (s : Scene) → IsOk (gathered_bytes s.space ranges) → ranges_write_reply device_write_reply ranges s ≡ value_reply s (total_len ranges)
device-written ranges s ok = by-found (gathered_bytes s.space ranges) refl ok
  where
    by-found : (found : Result (List ℕ) Miss) → gathered_bytes s.space ranges ≡ found → IsOk found → on_bytes s found (λ bytes. some_bytes device_write_reply bytes s) ≡ value_reply s (total_len ranges)
    by-found (Ok []) is ok = ap (value_reply s) (gathered-length s.space ranges [] is)
    by-found (Ok (byte ∷ bytes)) is ok = ap (value_reply s) (gathered-length s.space ranges (byte ∷ bytes) is)
    by-found (Err miss) is ok = absurd cc
