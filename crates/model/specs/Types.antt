-- The types of src/ by their names, with the constructors that no two of them share. Others are written behind their type,
-- as `Answer.Refused`.
pub use Rattle.model.specs.declared.Body.{Body}
pub use Rattle.model.specs.declared.Handler.{Handler}
pub use Rattle.model.specs.declared.Handler.TheVariants.{Resting, Storing, Dropping, Replacing}
pub use Rattle.model.specs.declared.Place.{Place}
pub use Rattle.model.specs.declared.Place.TheVariants.{Free, Run, Half}
pub use Rattle.model.specs.declared.Device.{Device}
pub use Rattle.model.specs.declared.Refusal.{Refusal}
pub use Rattle.model.specs.declared.Record.{Record}
pub use Rattle.model.specs.declared.Answer.{Answer}
pub use Rattle.model.specs.declared.Instruction.{Instruction}
pub use Rattle.model.specs.declared.Effect.{Effect}
pub use Rattle.model.specs.declared.Totals.{Totals}
pub use Rattle.std.specs.Prelude.{Option, Some, None, Result, Ok, Err}

-- What a check finds, and how a run ends: well, or with a refusal.
abbrev pub Checked : Type 0
Checked = Result Unit Refusal
