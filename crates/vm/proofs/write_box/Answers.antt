-- `vm::write_box` meets its contract. Assumes nothing.
use mathlib.Core.Path.{ap, ◌∙◌}
use Rattle.memory.specs.Bytes.{bytes_of}
use Rattle.memory.specs.Lists.{write}
use Rattle.gc.proofs.Headers.{two-written}
use Rattle.vm.proofs.write_box.Goals as goal

pub returns : goal.returns
returns c =
    c.store-2.ensures ∙ ap (write 8 (bytes_of 8 c.args.value)) c.store.ensures
    ∙ two-written c.args.tag c.args.value c.args.to.now
