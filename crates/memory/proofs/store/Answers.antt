-- `memory::store` meets its contract. Assumes nothing.
use mathlib.Core.Path.{◌≡◌, ap, ◌∙◌}
use lib.ListN.{take}
use Rattle.memory.specs.Bytes.{bytes_of}
use Rattle.memory.proofs.Bytes.{take-to_le_bytes, length-bytes_of}
use Rattle.memory.proofs.Over.{middle_returned}
use Rattle.memory.proofs.store.Goals as goal

pub returns : goal.returns
returns g c =
    let n = g.row.N in
    let v = c.args.v in
    let e : c.copy_from_slice.new.self ≡ bytes_of n v =
    c.copy_from_slice.ensures.after ∙ ap (take n) c.to_le_bytes-bytes.ensures ∙ take-to_le_bytes n v c.requires.word in
    rw e (middle_returned c.args.at n (bytes_of n v) c.args.s.now (length-bytes_of n v) c.requires.room)
