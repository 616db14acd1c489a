-- The kind of a record in two bits of its header.
use Rattle.std.proofs.Common.{◌≡◌, ℕ, zero, suc, ◌<◌, refl, arith}
use Rattle.heap_words.specs.declared.kind.Kind.{Kind}
use Rattle.heap_words.specs.declared.kind.Kind.TheVariants.{Fields}
use Rattle.heap_words.specs.Word.{kind_code}
use Rattle.heap_words.specs.Decoded.{kind_spelled}

pub kind_spelled-kind_code : (kind : Kind) → kind_spelled (kind_code kind) ≡ kind
kind_spelled-kind_code Fields = refl
kind_spelled-kind_code _ = refl

pub kind_code-lt : (kind : Kind) → kind_code kind < 4
kind_code-lt Fields = omega arith
kind_code-lt _ = omega arith

pub kind_code-kind_spelled : (code : ℕ) → code < 4 → kind_code (kind_spelled code) ≡ code
kind_code-kind_spelled zero few = refl
kind_code-kind_spelled (suc zero) few = refl
kind_code-kind_spelled (suc (suc zero)) few = refl
kind_code-kind_spelled (suc (suc (suc bits))) few = omega (arith, few)
