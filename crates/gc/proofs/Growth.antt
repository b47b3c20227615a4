-- The size of a pushed page, for every page size. Assumes nothing.
use mathlib.Core.Path.{◌≡◌}
use Prim.Native.Nat.{ℕ, ◌+◌, ◌-◌, ◌/◌, ◌%◌, ◌≤◌, ◌<◌}
use native.Mathlib.Omega.{arith}
use native.Mathlib.Nat.{div-add-mod', mod-lt, mul-mod_left}
use Rattle.gc.specs.Pages.{grow_of}

module _ (page_size n : ℕ) (h : 0 < page_size) where
  -- it holds the block, with its header and 8 bytes to spare
  pub grow_enough : 24 + n ≤ grow_of page_size n
  unfolding grow_of
  grow_enough = let x = 24 + n + (page_size - 1) in omega (arith, div-add-mod' x page_size, mod-lt x h)

  -- by less than a page
  pub grow_least : grow_of page_size n < 24 + n + page_size
  unfolding grow_of
  grow_least = let x = 24 + n + (page_size - 1) in omega (arith, div-add-mod' x page_size)

  -- in whole pages
  pub grow_whole : grow_of page_size n % page_size ≡ 0
  unfolding grow_of
  grow_whole = mul-mod_left ((24 + n + (page_size - 1)) / page_size) page_size

-- pages of 4,096 bytes: the least multiple that holds the block with its header and 8 bytes to spare
pub grow-least_multiple : (n cap : ℕ) → 24 + n ≤ cap → cap < 24 + n + 4096 → cap % 4096 ≡ 0 → cap ≡ grow_of 4096 n
unfolding grow_of
grow-least_multiple n cap low high whole = omega arith
