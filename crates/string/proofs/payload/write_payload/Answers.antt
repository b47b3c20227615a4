-- `string::payload::write_payload` meets its contract. Assumes nothing.
use native.Mathlib.Omega.{arith}
use Rattle.string.proofs.Strings.{payload_written}
use Rattle.string.proofs.payload.write_payload.Goals as goal

pub returns : goal.returns
returns g c =
    payload_written (g.N.Name.bytes c.args.hashed.name) c.args.to.now _ _ _ c.args.hashed.hash _ _ (omega (arith, c.requires)) c.len.ensures.0 c.from.ensures
    c.store.ensures c.store-2.ensures c.write.ensures
