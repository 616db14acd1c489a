-- How the text of lines of tokens splits into them again, and how long it is.
use Rattle.std.proofs.Common.{◌≡◌, ℕ, ◌+◌, ◌*◌, ◌≤◌, Bool, true, false, not, ◌&&◌, eqb, leb, List, [], ◌∷◌, ◌++◌, length, map, refl, ap, ◌∙◌, append_assoc, arith}
use Rattle.std.specs.Prelude.{codes, filter}
use Rattle.std.specs.List.{All, list_all, flat_map, join_with_byte, slice_split}
use Rattle.std.proofs.lemmas.Bool.{and_parts, leb-true, ne_eqb, not-true}
use Rattle.std.proofs.lemmas.List.{length-append}
use Rattle.std.proofs.lemmas.List.Elements.{All-nil, All-cons, All-append, All-weaker}
use Rattle.std.proofs.lemmas.List.Folds.{list_any_none}
use Rattle.std.proofs.lemmas.List.Splits.{slice_split_none, slice_split_at}
use Rattle.std.proofs.lemmas.List.Sums.{AllPass-from_list_all}
use Rattle.mutator_asm.specs.Line.{Nothing, Line, unlabelled, line_from, line_of, lines_of}
use Rattle.mutator_asm.specs.Listing.{line_text}
use Rattle.mutator_asm.specs.Token.{is_blank, is_semicolon, tokens_of}
use Rattle.mutator_asm.proofs.Lists.Firsts.{whole_before}
use Rattle.mutator_asm.proofs.Lists.Tests.{three_parts}

-- LF ends a line
abbrev is_end : ℕ → Bool
is_end b = eqb b 10

-- a byte may stand in a token: no blank, no semicolon and no LF
abbrev pub is_inner : ℕ → Bool
is_inner b = not (is_blank b) && not (is_semicolon b) && not (is_end b)

-- from 1 to 24 such bytes
abbrev pub is_token : List ℕ → Bool
is_token t = leb 1 (length t) && leb (length t) 24 && list_all is_inner t

token_parts : (t : List ℕ) → is_token t ≡ true → (1 ≤ length t) × (length t ≤ 24) × (list_all is_inner t ≡ true)
token_parts t h =
    let parts = three_parts (leb 1 (length t)) (leb (length t) 24) (list_all is_inner t) h in
    (leb-true 1 (length t) parts.0, leb-true (length t) 24 parts.1, parts.2)

-- a byte of a token is none of these
record IsInner (b : ℕ) : Type 0 where
  blank : is_blank b ≡ false
  semicolon : is_semicolon b ≡ false
  end : is_end b ≡ false

inner_parts : (b : ℕ) → is_inner b ≡ true → IsInner b
inner_parts b h =
    let parts = three_parts (not (is_blank b)) (not (is_semicolon b)) (not (is_end b)) h in
    record { blank = not-true (is_blank b) parts.0; semicolon = not-true (is_semicolon b) parts.1; end = not-true (is_end b) parts.2 }

token_inner : (t : List ℕ) → is_token t ≡ true → All IsInner t
token_inner t h = All-weaker (λ b. is_inner b ≡ true) IsInner inner_parts t (AllPass-from_list_all is_inner t (token_parts t h).2)

-- ---- the tokens of a line

-- what holds of the bytes of tokens and of a space holds of a line of tokens
joined_all : (P : ℕ → Type 0) → ((b : ℕ) → IsInner b → P b) → P 32 → (tokens : List (List ℕ)) → list_all is_token tokens ≡ true → All P (join_with_byte 32 tokens)
joined_all P of space [] h = All-nil P
joined_all P of space (t ∷ []) h = All-weaker IsInner P of t (token_inner t (and_parts (is_token t) true h).0)
joined_all P of space (t ∷ next ∷ tokens) h =
    let parts = and_parts (is_token t) (list_all is_token (next ∷ tokens)) h in
    let rest = join_with_byte 32 (next ∷ tokens) in
    All-append P t (32 ∷ rest) (All-weaker IsInner P of t (token_inner t parts.0)) (All-cons P 32 rest space (joined_all P of space (next ∷ tokens) parts.1))

no_blank : (t : List ℕ) → is_token t ≡ true → All (λ b. is_blank b ≡ false) t
no_blank t h = All-weaker IsInner (λ b. is_blank b ≡ false) (λ b of. of.blank) t (token_inner t h)

kept : (t : List ℕ) (parts : List (List ℕ)) → is_token t ≡ true → filter (λ u. not (eqb (length u) 0)) (t ∷ parts) ≡ t ∷ filter (λ u. not (eqb (length u) 0)) parts
kept t parts h =
    let some = (token_parts t h).0 in
    rw (ne_eqb (length t) 0 (λ e. omega arith)) refl

pieces : (tokens : List (List ℕ)) → list_all is_token tokens ≡ true → filter (λ u. not (eqb (length u) 0)) (slice_split is_blank (join_with_byte 32 tokens)) ≡ tokens
pieces [] h = refl
pieces (t ∷ []) h =
    let token = (and_parts (is_token t) true h).0 in
    rw (slice_split_none is_blank t (no_blank t token)) (kept t [] token)
pieces (t ∷ next ∷ tokens) h =
    let parts = and_parts (is_token t) (list_all is_token (next ∷ tokens)) h in
    let rest = join_with_byte 32 (next ∷ tokens) in
    rw (slice_split_at is_blank t 32 rest (no_blank t parts.0) refl) (kept t (slice_split is_blank rest) parts.0 ∙ ap (λ ts. t ∷ ts) (pieces (next ∷ tokens) parts.1))

-- the tokens of joined tokens are those again
tokens_joined : (tokens : List (List ℕ)) → list_all is_token tokens ≡ true → tokens_of (join_with_byte 32 tokens) ≡ tokens
unfolding tokens_of
tokens_joined tokens h =
    let line = join_with_byte 32 tokens in
    let no_semicolon = joined_all (λ b. is_semicolon b ≡ false) (λ b of. of.semicolon) refl tokens h in
    rw (whole_before is_semicolon line (list_any_none is_semicolon line no_semicolon)) (pieces tokens h)

-- ---- the lines of a text

-- the first line of a text, and those behind it
line_first : (tokens : List (List ℕ)) (rest : List ℕ) → list_all is_token tokens ≡ true → lines_of (line_text tokens ++ rest) ≡ line_from tokens ∷ lines_of rest
unfolding lines_of line_of
line_first tokens rest h =
    let line = join_with_byte 32 tokens in
    rw (append_assoc line (10 ∷ []) rest, slice_split_at is_end line 10 rest (joined_all (λ b. is_end b ≡ false) (λ b of. of.end) refl tokens h) refl, tokens_joined tokens h) refl

no_line : lines_of [] ≡ unlabelled Nothing ∷ []
unfolding lines_of line_of tokens_of
no_line = refl

-- the text of lines of tokens has those lines, and a blank one behind the last LF
pub lines_split : (lines : List (List (List ℕ))) → list_all (list_all is_token) lines ≡ true → lines_of (flat_map line_text lines) ≡ map line_from lines ++ unlabelled Nothing ∷ []
lines_split [] h = no_line
lines_split (tokens ∷ lines) h =
    let parts = and_parts (list_all is_token tokens) (list_all (list_all is_token) lines) h in
    line_first tokens (flat_map line_text lines) parts.0 ∙ ap (λ (ls : List Line). line_from tokens ∷ ls) (lines_split lines parts.1)

-- ---- how long a line is

joined_length : (tokens : List (List ℕ)) → list_all is_token tokens ≡ true → length (join_with_byte 32 tokens) ≤ 25 * length tokens
joined_length [] h = omega arith
joined_length (t ∷ []) h = omega (arith, (token_parts t (and_parts (is_token t) true h).0).1)
joined_length (t ∷ next ∷ tokens) h =
    let parts = and_parts (is_token t) (list_all is_token (next ∷ tokens)) h in
    omega (arith, (token_parts t parts.0).1, length-append t (32 ∷ join_with_byte 32 (next ∷ tokens)), joined_length (next ∷ tokens) parts.1)

-- a line has at most 25 bytes for each token, and LF
pub line_length : (tokens : List (List ℕ)) → list_all is_token tokens ≡ true → length (line_text tokens) ≤ 25 * length tokens + 1
line_length tokens h = omega (arith, length-append (join_with_byte 32 tokens) (codes "\n"), joined_length tokens h)
