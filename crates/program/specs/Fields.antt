-- The bounds of an instruction's fields as code holds them, `Below(a, b, k)`, are a record of the definitions: so the contracts
-- of `bounds` and `fields_fit` can cite `bounds` and `fields_fit`.
use Rattle.model.specs.Program.{Bounds}
use Rattle.program.specs.declared.code.Below.{Below}

abbrev pub as_bounds : Below → Bounds
as_bounds f = record { a = f.0; b = f.1; k = f.2 }
