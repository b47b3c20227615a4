-- What the parts of an interning come to over the lent buffers. Definitions only.
use Rattle.std.specs.Prelude.{◌≡◌, ℕ, ◌-◌, ◌≤◌, List, length}
use Rattle.memory.specs.Lists.{write}
use Rattle.string.specs.Payload.{payload_of, payload_size}
use Rattle.gc.specs.Pages.{Pages, Block, allocated}
use Rattle.gc.specs.Lent.{page_size, InHeap}
use Rattle.vm.specs.declared.State.{State}
use Rattle.names.specs.declared.interner.Names.{Names}
use Rattle.vm.specs.Core.{set_bytes}
use Rattle.vm.specs.Machine.{Machine, Host, host, intern, act}
use Rattle.vm.specs.Told.{holding}

-- a block with bytes written into its payload
unfoldable pub written : List ℕ → Block → Block
written bs b = record { address = b.address; pages = set_bytes (write (b.address - b.pages.base) bs b.pages.bytes) b.pages }

-- the block of a new name: a String (3), with its header and bytes
abbrev pub name_block : List ℕ → ℕ → Pages → Block
name_block s hash p = written (payload_of s hash) (allocated page_size 3 (payload_size (length s)) p)

-- what 10 and 9 have tested before a name is looked for
pub record Belong (n : Names) (heap slots spare : List ℕ) : Type 0 where
  pub pages : InHeap n.gc heap
  pub active : n.strings.active ≤ length slots
  pub few : n.strings.len ≤ n.strings.active
  pub most : length slots ≤ 4096
  pub as_long : length spare ≡ length slots

-- the numbers of a state's heap and table
abbrev pub names_of : State → Names
names_of s = record { gc = s.gc; strings = s.strings }

-- a state with the numbers of this heap and table: an interning leaves registers, pc and depth alone
abbrev pub in_state : State → Names → State
in_state s n = holding s n.gc n.strings

-- a call that does what the interning of these bytes does, once no test refuses it
abbrev pub Interns : Host → List ℕ → Type 0
Interns k s = (m : Machine) → act (host k) m ≡ act (host (intern s)) m
