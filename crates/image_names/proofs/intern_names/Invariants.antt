-- `image_names::intern_names`: its loops. Assumes nothing.
use mathlib.Core.Path.{◌≡◌}
use lib.ListN.{length}
use Rattle.text.specs.Left.{names_left}
use Rattle.vm.specs.Machine.{Lent, lend_names}
use Rattle.vm.specs.Told.{machine_of}
use Rattle.image_names.proofs.Interning.{Interning}
use Rattle.image_names.proofs.intern_names.Given as goal

abbrev pub invariant-loop-named : goal.invariant-loop-named
invariant-loop-named l =
    (goal.iterator-loop-named).can_next l.named-iterator × (goal.iterator-loop-named).is_finite l.named-iterator
    × Interning l.input (λ (t : Lent). machine_of l.initial.state (lend_names l.initial.heap l.initial.slots l.initial.spare t)) l.initial.globals
    (names_left l.named-iterator) (λ (t : Lent). machine_of l.state (lend_names l.heap l.slots l.spare t)) l.globals
    × (length l.heap ≡ length l.initial.heap) × (length l.slots ≡ length l.initial.slots)
    × (length l.spare ≡ length l.initial.spare) × (length l.name ≡ length l.initial.name)
