-- How the definitions choose and refuse. A test is a Bool; a check is `must` with the refusal that it meets, checks stand in
-- a row with `then`, and the first refusal counts.
use Rattle.std.specs.Prelude.{ℕ, zero, suc, Bool, true, false}
use Rattle.model.specs.Types.{Checked, Err, Ok, Refusal}

unfoldable pub pick {ℓ} : {A : Type ℓ} → Bool → A → A → A
pick true x y = x
pick false x y = y

unfoldable pub both : Bool → Bool → Bool
both true b = b
both false b = false

infixr 35 ◌and◌
abbrev pub ◌and◌ : Bool → Bool → Bool
a and b = both a b

unfoldable pub either : Bool → Bool → Bool
either true b = true
either false b = b

infixr 34 ◌or◌
abbrev pub ◌or◌ : Bool → Bool → Bool
a or b = either a b

unfoldable pub must : Bool → Refusal → Checked
must true r = Ok tt
must false r = Err r

unfoldable pub in_turn : Checked → Checked → Checked
in_turn (Ok _) b = b
in_turn (Err r) b = Err r

infixr 30 ◌then◌
abbrev pub ◌then◌ : Checked → Checked → Checked
a then b = in_turn a b

-- the checks f i, f (i + 1), .. of which there are k
unfoldable pub each : (ℕ → Checked) → ℕ → ℕ → Checked
each f i zero = Ok tt
each f i (suc k) = f i then each f (suc i) k
