-- Instructions on a core without limits, each held afterwards to what is lent, and runs with a budget. Definitions only.
use Rattle.std.specs.Prelude.{ℕ, zero, suc, ◌+◌, ◌-◌, ◌%◌, ◌^◌, Bool, true, false, ◌&&◌, ◌||◌, List, [], ◌∷◌, ◌++◌, length, get_or, take, set, eqb, ltb}
use Rattle.std.proofs.Math.Option.{Option, none, some}
use Rattle.memory.specs.Bytes.{bytes_of, number}
use Rattle.memory.specs.Lists.{write}
use Rattle.string.specs.Payload.{reaches}
use Rattle.gc.specs.Pages.{Pages, Block, allocated}
use Rattle.gc.specs.Metadata.{bits_of}
use Rattle.gc.specs.Lent.{page_size}
use Rattle.op.specs.Decode.{decode_of}
use Rattle.effects.specs.declared.Effect.{Effect}
use Rattle.effects.specs.declared.Effect.TheVariants as effect
use Rattle.vm.specs.Core.{Core, Sizes, used, short, set_reg, set_pc, set_frames, set_memory, set_pages, set_bytes}
use Rattle.program.specs.Image.{Image}
use Rattle.effects.specs.Stops.{number_of_stop, unlisted}
use Rattle.effects.specs.Effect.{word_effect}

-- what an instruction comes to: a further core, a Halt, or an end with the core that it leaves
pub data Step : Type 0 where
  next : Core → Step
  halted : Step
  stop : ℕ → Core → Step

-- from c to d, or an end that leaves c
unfoldable pub provided : Bool → ℕ → Core → Core → Step
provided true e c d = next d
provided false e c d = stop e c

unfoldable pub forward : Core → Core
forward c = set_pc (c.pc + 1) c

-- '`Load` and `Store` reach 8 bytes at base plus offset, an unwrapped sum that is a multiple of 8 and wholly in pushed pages; else end 6'
unfoldable pub addressed : Pages → ℕ → Bool
addressed p a = eqb (a % 8) 0 && reaches p.base (length p.bytes) a 8

unfoldable pub loaded : Pages → ℕ → ℕ
loaded p a = number 8 (a - p.base) p.bytes

unfoldable pub stored8 : ℕ → ℕ → Pages → Pages
stored8 a v p = set_bytes (write (a - p.base) (bytes_of 8 v) p.bytes) p

-- '`Ret` at depth 0: end 8'; a return goes on behind the `Call`
unfoldable pub returned : ℕ → Core → Step
returned zero c = stop 8 c
returned (suc d) c = next (set_pc ((get_or c.frames d 0 + 1) % 2 ^ 64) (set_frames (take d c.frames) c))

unfoldable pub block_to : ℕ → Core → Block → Step
block_to dst c b = next (forward (set_reg dst b.address (set_memory (set_pages b.pages c.memory) c)))

-- an effect on a core without limits
unfoldable pub apply : Effect → Core → Step
apply (effect.Set dst v) c = next (forward (set_reg dst v c))
apply effect.Skip c = next (forward c)
apply (effect.Goto target) c = next (set_pc target c)
apply (effect.Call func) c = next (set_pc func (set_frames (c.frames ++ (c.pc ∷ [])) c))
apply effect.Ret c = returned (length c.frames) c
apply (effect.Load dst base offset) c = provided (addressed c.memory.pages (base + offset)) 6 c
    (forward (set_reg dst (loaded c.memory.pages (base + offset)) c))
apply (effect.Store base offset v) c =
    provided (addressed c.memory.pages (base + offset)) 6 c
    (forward (set_memory (set_pages (stored8 (base + offset) v c.memory.pages) c.memory) c))
apply (effect.Alloc kind dst size) c = block_to dst c (allocated page_size (bits_of kind) size c.memory.pages)
apply (effect.Stop why) c = stop (number_of_stop why) c
apply (effect.Unlisted number) c = stop number c
apply effect.Halt c = halted

-- the effect of the word at the pc
unfoldable pub fetched : Bool → Image → Core → Effect
fetched true im c = word_effect im c.regs (decode_of (get_or im.code c.pc 0))
fetched false im c = effect.Unlisted unlisted

-- what the word at the pc asks for
unfoldable pub asked : Image → Core → Effect
asked im c = fetched (ltb c.pc (length im.code)) im c

-- ---- held to what is lent: a step from c whose result does not fit stops as if it had done nothing

unfoldable pub unless : Option ℕ → Core → Core → Step
unless none c d = next d
unless (some e) c d = stop e c

unfoldable pub limited : Sizes → Core → Step → Step
limited lent c (next d) = unless (short lent (used d)) c d
limited lent c halted = halted
limited lent c (stop e d) = stop e d

unfoldable pub step : Sizes → Image → Core → Step
step lent im c = limited lent c (apply (asked im c) c)

-- ---- a run

-- how a run ended, the core it left, the instructions completed, and the core after each of them
pub record Ran : Type 0 where
  pub ending : ℕ
  pub core : Core
  pub steps : ℕ
  pub trail : List Core

unfoldable pub after : Core → Ran → Ran
after d r = record { ending = r.ending; core = r.core; steps = suc r.steps; trail = d ∷ r.trail }

-- an end e, with the core that is left
abbrev pub ends : ℕ → Core → ℕ → Ran
ends e c steps = record { ending = e; core = c; steps = steps; trail = [] }

-- 'Halt counts as a step; a stopped instruction doesn't'; 5 when the budget is completed
unfoldable pub go : Sizes → Image → ℕ → Core → Ran
go lent im zero c = ends 5 c 0
go lent im (suc b) c = elim (step lent im c) [ next d ↦ after d (go lent im b d) | halted ↦ ends 0 c 1 | stop e d ↦ ends e d 0 ]

-- 'A run on non-empty code writes frame 0 with (length − 2) modulo 2^64, even if pc is past the end'
unfoldable pub root : ℕ → ℕ
root n = (n + (2 ^ 64 - 2)) % 2 ^ 64

unfoldable pub entered : ℕ → Core → Core
entered n c = set_frames (set c.frames 0 (root n)) c

-- 'After every end but 0 and 5 the stored pc is the one from before the run'
unfoldable pub stored : ℕ → ℕ → Core → Core
stored e p c = elim (eqb e 0 || eqb e 5) [ true ↦ c | false ↦ set_pc p c ]
