-- Texts written digit by digit and line by line. Assumes nothing.
use Rattle.std.proofs.Common.{◌≡◌, ◌<◌, ◌≤◌, ◌+◌, ◌/◌, ◌%◌, ◌*◌, ◌^◌, ℕ, suc, List, [], ◌∷◌, ◌++◌, length, drop, get_or, arith, append_assoc, append-nil, add-one, drop-cons}
use lib.ListN.{drop_of_length-le}
use Rattle.report.specs.Hex.{digit_of_value, hex_of}
use Rattle.report.specs.Report.{register_line, register_lines}

-- ---- digits

-- the digit at the place i - 1, then those below it
pub hex_more : (out after whole : List ℕ) (i next v : ℕ) → i ≡ suc next → out ++ hex_of i v ≡ whole
    → after ≡ out ++ (digit_of_value (v / 2 ^ (4 * next) % 16) ∷ []) → after ++ hex_of next v ≡ whole
unfolding hex_of
hex_more out after whole i next v z e f = rw (f, append_assoc) (rw z at e)

pub hex_all : (out before : List ℕ) (i count v : ℕ) → i ≡ 0 → out ++ hex_of i v ≡ before ++ hex_of count v → out ≡ before ++ hex_of count v
unfolding hex_of
hex_all out before i count v z e = rw (z, append-nil) at e

-- ---- lines

pub line_more : (out after whole regs : List ℕ) (i : ℕ) → i < length regs → out ++ register_lines i (drop i regs) ≡ whole
    → after ≡ out ++ register_line i (get_or regs i 0) → after ++ register_lines (i + 1) (drop (i + 1) regs) ≡ whole
unfolding register_lines
line_more out after whole regs i h e f = rw (add-one, f, append_assoc) (rw (drop-cons regs i 0 h) at e)

pub lines_all : (out before regs : List ℕ) (i : ℕ) → length regs ≡ i → out ++ register_lines i (drop i regs) ≡ before ++ register_lines 0 regs
    → out ≡ before ++ register_lines 0 regs
unfolding register_lines
lines_all out before regs i h e = let past : length regs ≤ i = omega arith in rw (drop_of_length-le regs past, append-nil) at e
