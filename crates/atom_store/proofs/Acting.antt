-- A machine that wants no step makes none.
use Rattle.std.proofs.Common.{◌≡◌, true, false}

pub no_step : false ≡ true → ⊥
no_step is = cc
