-- What is computed of two numbers.
use Rattle.std.specs.Prelude.{ℕ, ◌+◌, ◌-◌, ◌*◌, ◌/◌, ◌%◌, Bool, Result, Ok, Err, nat_lt, ◌==◌, if◌then◌else◌}
use Rattle.plain_state.specs.declared.end.End.{End}
use Rattle.plain_state.specs.declared.end.End.TheVariants.{ZeroDivisor}
use Rattle.plain_state.specs.declared.operation.Operation.{Operation}
use Rattle.plain_state.specs.declared.operation.Operation.TheVariants.{Add, Sub, Mul, Div, Rem, Lt}
use Rattle.plain_state.specs.declared.sizes.TheConstants.{NUMBERS}

-- 1 for yes, 0 for no
abbrev pub one_if : Bool → ℕ
one_if b = if b then 1 else 0

-- the number, if there is something to divide by
abbrev pub divided_by : ℕ → ℕ → Result ℕ End
divided_by b n = if b == 0 then Err ZeroDivisor else Ok n

-- the number that an operation computes of a and b, or the end that it is
abbrev pub applied : Operation → ℕ → ℕ → Result ℕ End
applied Add a b = Ok ((a + b) % NUMBERS)
applied Sub a b = Ok ((a + (NUMBERS - b % NUMBERS)) % NUMBERS)
applied Mul a b = Ok (a * b % NUMBERS)
applied Div a b = divided_by b (a / b)
applied Rem a b = divided_by b (a % b)
applied Lt a b = Ok (one_if (nat_lt a b))
