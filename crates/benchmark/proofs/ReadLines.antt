-- What the lines of the text say.
use Rattle.std.proofs.Common.{◌≡◌, ℕ, ◌&&◌, true, List, ◌∷◌, ◌++◌, map, Some, refl}
use Rattle.std.specs.Prelude.{codes, decimal}
use Rattle.std.specs.List.{list_all}
use Rattle.std.proofs.lemmas.Bool.{and_parts}
use Rattle.mutator_asm.specs.declared.instr.Instr.TheVariants.{Li}
use Rattle.mutator_asm.specs.Instr.{instr_of}
use Rattle.mutator_asm.specs.Line.{Line, Does, line_from, named_of, unlabelled}
use Rattle.mutator_asm.specs.Listing.{register_token}
use Rattle.mutator_asm.specs.Program.{is_number}
use Rattle.mutator_asm.specs.Token.{label_of, number_of, register_of}
use Rattle.mutator_asm.proofs.Listings.RereadTokens.{number_reread}
use Rattle.mutator_asm.proofs.Listings.Split.{is_token}
use Rattle.mutator_asm.proofs.Listings.Tokens.{instr_is_tokens}
use Rattle.benchmark.proofs.Tokens.{lines, section_tokens}

-- the digits of a number are a token
number_is_token : (n : ℕ) → is_number n ≡ true → is_token (decimal n) ≡ true
number_is_token n h =
    let operands = and_parts (is_token (register_token 0)) (is_token (decimal n) && true) (instr_is_tokens (Li 0 n) h) in
    (and_parts (is_token (decimal n)) true operands.1).0

-- the lines are made of tokens
pub are_tokens : (first count addend : ℕ) → is_number first ≡ true → is_number count ≡ true → is_number addend ≡ true
    → list_all (list_all is_token) (section_tokens (decimal first) (decimal count) (decimal addend)) ≡ true
are_tokens first count addend f c a = rw (number_is_token first f, number_is_token count c, number_is_token addend a) refl

-- what these lines say
abbrev read : List ℕ → List Line
read text = map line_from (lines text)

abbrev loads : ℕ → ℕ → Line
loads r n = unlabelled (Does (Li r n))

-- what the lines of a section say
abbrev pub section_lines : (first count addend : ℕ) → List Line
section_lines first count addend =
    read (codes ".mutator\nli r7 1\nli r0 0") ++ loads 1 first ∷ loads 2 count
    ∷ read (codes "ins: raw r3 47\nnew r3 3\nst r3 0 r1\njz r0 root\nmov r4 r0\ndown: ld r5 r4 0\nlt r5 r1 r5\njz r5 right")
    ++ read (codes "ld r6 r4 1\njz r6 putl\nmov r4 r6\njmp down\nputl: st r4 1 r3\njmp next\nright: ld r6 r4 2\njz r6 putr\nmov r4 r6\njmp down")
    ++ read (codes "putr: st r4 2 r3\njmp next\nroot: mov r0 r3\nnext: li r5 5\nmul r1 r1 r5") ++ loads 5 addend
    ∷ read (codes "add r1 r1 r5") ++ loads 5 count
    ∷ read (codes "rem r1 r1 r5\nsub r2 r2 r7\njz r2 look\njmp ins") ++ record { label = Some (codes "look"); word = Does (Li 2 count) }
    ∷ read (codes "li r3 0\nfind: mov r4 r0\nseek: isp r5 r4\njz r5 step\nld r5 r4 0\neq r6 r5 r1\njz r6 on\nadd r3 r3 r7\njmp step")
    ++ read (codes "on: lt r6 r1 r5\njz r6 hi\nld r4 r4 1\njmp seek\nhi: ld r4 r4 2\njmp seek\nstep: li r5 5\nmul r1 r1 r5")
    ++ loads 5 addend ∷ read (codes "add r1 r1 r5") ++ loads 5 count
    ∷ read (codes "rem r1 r1 r5\nsub r2 r2 r7\njz r2 tell\njmp find\ntell: out r3\nhalt")

pub says : (first count addend : ℕ) → is_number first ≡ true → is_number count ≡ true → is_number addend ≡ true
    → map line_from (section_tokens (decimal first) (decimal count) (decimal addend)) ≡ section_lines first count addend
unfolding label_of named_of instr_of register_of number_of
says first count addend f c a = rw (number_reread first f, number_reread count c, number_reread addend a) refl
