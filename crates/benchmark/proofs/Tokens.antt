-- The lines of the text, by their tokens.
use Rattle.std.proofs.Common.{◌≡◌, ℕ, List, [], ◌∷◌, ◌++◌, map, eqb, refl, append_assoc, sym, ◌∙◌, ap}
use Rattle.std.specs.Prelude.{codes, decimal}
use Rattle.std.specs.List.{flat_map, slice_split}
use Rattle.mutator_asm.specs.Listing.{line_text}
use Rattle.benchmark.specs.declared.keys.Keys.{Keys}
use Rattle.benchmark.specs.Text.{section_text}

-- the tokens of a line
abbrev pub tokens : List ℕ → List (List ℕ)
tokens text = slice_split (λ b. eqb b 32) text

-- those of each line
abbrev pub lines : List ℕ → List (List (List ℕ))
lines text = map tokens (slice_split (λ b. eqb b 10) text)

-- those of a line that ends with a number
abbrev ending : List ℕ → List ℕ → List (List ℕ)
ending text number = tokens text ++ number ∷ []

-- those of a mutator's section, where these are its first key, the count of its keys and their addend
abbrev pub section_tokens : (first count addend : List ℕ) → List (List (List ℕ))
section_tokens first count addend =
    lines (codes ".mutator\nli r7 1\nli r0 0") ++ ending (codes "li r1") first ∷ ending (codes "li r2") count
    ∷ lines (codes "ins: raw r3 47\nnew r3 3\nst r3 0 r1\njz r0 root\nmov r4 r0\ndown: ld r5 r4 0\nlt r5 r1 r5\njz r5 right")
    ++ lines (codes "ld r6 r4 1\njz r6 putl\nmov r4 r6\njmp down\nputl: st r4 1 r3\njmp next\nright: ld r6 r4 2\njz r6 putr\nmov r4 r6\njmp down")
    ++ lines (codes "putr: st r4 2 r3\njmp next\nroot: mov r0 r3\nnext: li r5 5\nmul r1 r1 r5") ++ ending (codes "li r5") addend
    ∷ tokens (codes "add r1 r1 r5") ∷ ending (codes "li r5") count
    ∷ lines (codes "rem r1 r1 r5\nsub r2 r2 r7\njz r2 look\njmp ins") ++ ending (codes "look: li r2") count
    ∷ lines (codes "li r3 0\nfind: mov r4 r0\nseek: isp r5 r4\njz r5 step\nld r5 r4 0\neq r6 r5 r1\njz r6 on\nadd r3 r3 r7\njmp step")
    ++ lines (codes "on: lt r6 r1 r5\njz r6 hi\nld r4 r4 1\njmp seek\nhi: ld r4 r4 2\njmp seek\nstep: li r5 5\nmul r1 r1 r5")
    ++ ending (codes "li r5") addend ∷ tokens (codes "add r1 r1 r5") ∷ ending (codes "li r5") count
    ∷ lines (codes "rem r1 r1 r5\nsub r2 r2 r7\njz r2 tell\njmp find\ntell: out r3\nhalt")

-- its text
abbrev section_with : (first count addend : List ℕ) → List ℕ
section_with first count addend =
    codes ".mutator\nli r7 1\nli r0 0\nli r1 " ++ first ++ codes "\nli r2 " ++ count
    ++ codes "\nins: raw r3 47\nnew r3 3\nst r3 0 r1\njz r0 root\nmov r4 r0\ndown: ld r5 r4 0\nlt r5 r1 r5\njz r5 right\n"
    ++ codes "ld r6 r4 1\njz r6 putl\nmov r4 r6\njmp down\nputl: st r4 1 r3\njmp next\nright: ld r6 r4 2\njz r6 putr\nmov r4 r6\njmp down\n"
    ++ codes "putr: st r4 2 r3\njmp next\nroot: mov r0 r3\nnext: li r5 5\nmul r1 r1 r5\nli r5 " ++ addend
    ++ codes "\nadd r1 r1 r5\nli r5 " ++ count ++ codes "\nrem r1 r1 r5\nsub r2 r2 r7\njz r2 look\njmp ins\nlook: li r2 " ++ count
    ++ codes "\nli r3 0\nfind: mov r4 r0\nseek: isp r5 r4\njz r5 step\nld r5 r4 0\neq r6 r5 r1\njz r6 on\nadd r3 r3 r7\njmp step\n"
    ++ codes "on: lt r6 r1 r5\njz r6 hi\nld r4 r4 1\njmp seek\nhi: ld r4 r4 2\njmp seek\nstep: li r5 5\nmul r1 r1 r5\nli r5 " ++ addend
    ++ codes "\nadd r1 r1 r5\nli r5 " ++ count ++ codes "\nrem r1 r1 r5\nsub r2 r2 r7\njz r2 tell\njmp find\ntell: out r3\nhalt\n"

-- a line of tokens, and what comes after it
abbrev line_then : List (List ℕ) → List ℕ → List ℕ
line_then [] rest = 10 ∷ rest
line_then (t ∷ []) rest = t ++ 10 ∷ rest
line_then (t ∷ next ∷ more) rest = t ++ 32 ∷ line_then (next ∷ more) rest

abbrev written : List (List (List ℕ)) → List ℕ
written [] = []
written (line ∷ more) = line_then line (written more)

line_is : (line : List (List ℕ)) (rest : List ℕ) → line_then line rest ≡ line_text line ++ rest
line_is [] rest = refl
line_is (t ∷ []) rest = sym (append_assoc t (10 ∷ []) rest)
line_is (t ∷ next ∷ more) rest = ap (λ xs. t ++ 32 ∷ xs) (line_is (next ∷ more) rest) ∙ simp append_assoc

written_is : (ls : List (List (List ℕ))) → written ls ≡ flat_map line_text ls
written_is [] = refl
written_is (line ∷ more) = line_is line (written more) ∙ ap (λ rest. line_text line ++ rest) (written_is more)

split_is : (first count addend : List ℕ) → section_with first count addend ≡ written (section_tokens first count addend)
split_is first count addend = simp append_assoc

pub section_is : (count : ℕ) (keys : Keys) → section_text count keys ≡ flat_map line_text (section_tokens (decimal keys.first) (decimal count) (decimal keys.addend))
unfolding section_text
section_is count keys = split_is (decimal keys.first) (decimal count) (decimal keys.addend) ∙ written_is (section_tokens (decimal keys.first) (decimal count) (decimal keys.addend))
