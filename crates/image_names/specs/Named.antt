-- The names of an image, interned one by one into its globals. Definitions only.
use Rattle.std.specs.Prelude.{ℕ, List, [], ◌∷◌, set}
use Rattle.text.specs.Names.{Name}
use Rattle.vm.specs.Machine.{Machine, Answer, ended, value, done, refused, Called, host, intern, perform}

-- what the last call answered, and the globals
pub record Interned : Type 0 where
  pub called : Called
  pub globals : List ℕ

-- after the call of one name: its value goes to its global, and the rest follows; a refusal ends it
unfoldable pub intern_on : Answer → Called → List ℕ → ℕ → (Machine → List ℕ → Interned) → Interned
intern_on (value v) c g global rest = rest c.machine (set g global v)
intern_on (refused e) c g global rest = record { called = c; globals = g }
intern_on done c g global rest = record { called = c; globals = g }
intern_on (ended e pc steps) c g global rest = record { called = c; globals = g }

-- 'each interning is a call of its own, and names before a refused one stay'
unfoldable pub intern_all : List Name → Machine → List ℕ → Interned
intern_all [] m g = record { called = record { answer = done; machine = m }; globals = g }
intern_all (name ∷ names) m g =
    let c = perform (host (intern name.bytes)) m in
    intern_on c.answer c g name.global (intern_all names)
