-- A state in 64-bit words. Definitions only.
use Rattle.std.specs.Prelude.{ℕ, List, [], ◌∷◌, ◌++◌, take, get_or}
use Rattle.str_table.specs.declared.StrTable.{StrTable}
use Rattle.gc.specs.declared.Gc.{Gc}
use Rattle.vm.specs.declared.State.{State}

abbrev pub state_words : ℕ
state_words = 40

-- words 34 to 39, of the heap and the table of names
abbrev pub names : Gc → StrTable → List ℕ
names g t = g.base ∷ g.pushed ∷ g.page ∷ g.len ∷ t.active ∷ t.len ∷ []

-- words 32 to 39
abbrev pub numbers : State → List ℕ
numbers s = s.pc ∷ s.depth ∷ names s.gc s.strings

-- words 0 to 31 are the registers
unfoldable pub packed : State → List ℕ
packed s = s.regs ++ numbers s

unfoldable pub unpacked : List ℕ → State
unpacked w =
    record {
      regs = take 32 w;
      pc = get_or w 32 0;
      depth = get_or w 33 0;
      gc = record { base = get_or w 34 0; pushed = get_or w 35 0; page = get_or w 36 0; len = get_or w 37 0 };
      strings = record { active = get_or w 38 0; len = get_or w 39 0 };
    }
