-- Words as two's complement. What the machine reads back from a small number's bits is the number; the two signs of a word;
-- and `shifted` and `less` in plain arithmetic, at both ends of the range. Assumes nothing.
use Prim.Native.Nat.{ℕ, ◌-◌, ◌/◌, ◌^◌, ◌≤◌, ◌<◌}
use mathlib.Core.Bool.{Bool, true, false}
use mathlib.Core.Path.{◌≡◌, refl}
use native.Mathlib.Omega.{arith}
use borrow.Author.Tests.{lt-ltb, le-ltb, ltb-true, ltb-false, leb-true}
use lib.Dec.{ltb}
use lib.IntN.{ℤ, pos, negsuc}
use lib.Signed.{mag, lt_z, le_z, shr_z, mag_shr}
use mir.Syntax.{w32}
use mir.Val.{to_z, of_z}
use mir.ValLaws.{to_z-of_z}
use Rattle.model.proofs.TestLaws.{impossible}
use Rattle.model.specs.Program.{signed, unsigned, shifted, less}
use Rattle.model.specs.Test.{pick}

-- ---- The machine's bits

pub read_back : (z : ℤ) → mag z < 131072 → to_z w32 (of_z w32 z) ≡ z
read_back z h = to_z-of_z w32 z (record { sfits = omega arith })

pub read_word : (x : ℕ) → x < 65536 → to_z w32 x ≡ pos x
read_word x h = simp (lt-ltb x 2147483648 (omega arith))

-- the sign of a number that the machine found below b, and not below b
pub below-zero : (z b : ℤ) → mag z < 131072 → le_z b (pos 0) ≡ true → lt_z (to_z w32 (of_z w32 z)) b ≡ true → z ≡ negsuc (mag z)
below-zero z b h l t = go z b l (rw (read_back z h) at t)
  where
    go : (y b : ℤ) → le_z b (pos 0) ≡ true → lt_z y b ≡ true → y ≡ negsuc (mag y)
    go (negsuc n) b l t = refl
    go (pos n) (pos m) l t = absurd (omega (arith, leb-true m 0 l, ltb-true n m t))
    go (pos n) (negsuc m) l t = impossible (cc)

pub from_zero : (z b : ℤ) → mag z < 131072 → le_z (pos 0) b ≡ true → lt_z (to_z w32 (of_z w32 z)) b ≡ false → z ≡ pos (mag z)
from_zero z b h l t = go z b l (rw (read_back z h) at t)
  where
    go : (y b : ℤ) → le_z (pos 0) b ≡ true → lt_z y b ≡ false → y ≡ pos (mag y)
    go (pos n) b l t = refl
    go (negsuc n) (pos m) l t = impossible (cc)
    go (negsuc n) (negsuc m) l t = impossible (cc)

-- ---- A word's two signs

pub signed_low : (x : ℕ) → x < 32768 → signed x ≡ pos x
unfolding signed pick
signed_low x h = simp (lt-ltb x 32768 h)

pub signed_high : (x : ℕ) → 32768 ≤ x → signed x ≡ negsuc (65535 - x)
unfolding signed pick
signed_high x h = simp (le-ltb x 32768 h)

pub mag_signed : (x : ℕ) → x < 65536 → mag (signed x) < 32768
mag_signed x h = go (ltb x 32768) refl
  where
    go : (b : Bool) → ltb x 32768 ≡ b → mag (signed x) < 32768
    go true t = rw (signed_low x (ltb-true x 32768 t)) (ltb-true x 32768 t)
    go false t = let l : 32768 ≤ x = ltb-false x 32768 t in rw (signed_high x l) (omega arith)

pub mag_shifted : (x k : ℕ) → x < 65536 → mag (shr_z (signed x) (2 ^ k)) < 32768
mag_shifted x k h = omega (arith, mag_signed x h, mag_shr (signed x) (2 ^ k))

-- ---- SHR in plain arithmetic

pub shifted-low : (x k : ℕ) → x < 32768 → shifted x k ≡ x / 2 ^ k
unfolding shifted unsigned
shifted-low x k h = rw (signed_low x h)

pub shifted-high : (x k : ℕ) → 32768 ≤ x → shifted x k ≡ 65535 - (65535 - x) / 2 ^ k
unfolding shifted unsigned
shifted-high x k h = rw (signed_high x h)

-- ---- JLT in plain arithmetic: the order of the words where their signs agree, and a negative word below any other

pub less-low : (x y : ℕ) → x < 32768 → y < 32768 → less x y ≡ ltb x y
unfolding less
less-low x y h i = rw (signed_low x h, signed_low y i)

pub less-high : (x y : ℕ) → 32768 ≤ x → 32768 ≤ y → x < 65536 → y < 65536 → less x y ≡ ltb x y
unfolding less
less-high x y h i j k = rw (signed_high x h, signed_high y i) (go (ltb x y) refl)
  where
    go : (b : Bool) → ltb x y ≡ b → ltb (65535 - y) (65535 - x) ≡ ltb x y
    go true t = let l : x < y = ltb-true x y t in simp (lt-ltb x y l, lt-ltb (65535 - y) (65535 - x) (omega arith))
    go false t = let l : y ≤ x = ltb-false x y t in simp (le-ltb x y l, le-ltb (65535 - y) (65535 - x) (omega arith))

pub less-high-low : (x y : ℕ) → 32768 ≤ x → y < 32768 → less x y ≡ true
unfolding less
less-high-low x y h i = rw (signed_high x h, signed_low y i)

pub less-low-high : (x y : ℕ) → x < 32768 → 32768 ≤ y → less x y ≡ false
unfolding less
less-low-high x y h i = rw (signed_low x h, signed_high y i)
