-- The first line in which two texts differ, found byte by byte, as a loop does.
use Rattle.std.proofs.Common.{◌≡◌, ℕ, suc, ◌+◌, ◌-◌, ◌<◌, ◌≤◌, Bool, true, false, cond, eqb, List, [], ◌∷◌, ◌++◌, length, get_or, drop, Some, None, refl, sym, ap, subst, ◌∙◌, arith}
use Rattle.std.proofs.lemmas.Bool.{eq-eqb}
use Rattle.std.proofs.lemmas.List.{append_assoc, append_cancel_left, at_drop_more, drop_all}
use Rattle.dump_text.specs.Lines.{first_lines}
use Rattle.dump_text.specs.Pieces.{byte_at}
use Rattle.dump_text.proofs.Pieces.{byte_takes}
use Rattle.heap_audit.specs.Texts.FirstOther.{IsFirstOther}
use Rattle.heap_audit.proofs.Texts.Fronts.{ends, ends_append, front_lines, line_more}

ends_one_more : (front : List ℕ) (b : ℕ) → ends (front ++ b ∷ []) ≡ cond (eqb b 10) (ends front + 1) (ends front)
ends_one_more front b =
    let sum = ends_append front (b ∷ []) in
    elim (eqb b 10) as (λ t. ends (front ++ b ∷ []) ≡ ends front + cond t 1 0 → ends (front ++ b ∷ []) ≡ cond t (ends front + 1) (ends front)) [ true ↦ λ e. e | false ↦ λ e. omega (arith, e) ] sum

-- both texts begin alike, and this line, counted from 1, is the one that comes next
pub record Alike (wanted told rest more : List ℕ) (line : ℕ) : Type 0 where
  pub front : List ℕ
  pub is_wanted : wanted ≡ front ++ rest
  pub is_told : told ≡ front ++ more
  pub is_line : line ≡ ends front + 1

next_line : (t : Bool) (line k : ℕ) → line ≡ k + 1 → cond t (line + 1) line ≡ cond t (k + 1) k + 1
next_line true line k e = omega (arith, e)
next_line false line k e = e

module _ (wanted told rest : List ℕ) where
  -- one byte more is the same
  pub goes_on : (b : ℕ) (more behind : List ℕ) (line next : ℕ) → Alike wanted told rest (b ∷ more) line → byte_at b rest ≡ Some behind → next ≡ cond (eqb b 10) (line + 1) line → Alike wanted told behind more next
  goes_on b more behind line next s read step =
      record {
        front = s.front ++ b ∷ [];
        is_wanted = s.is_wanted ∙ ap (λ (xs : List ℕ). s.front ++ xs) (byte_takes b rest behind read) ∙ sym (append_assoc s.front (b ∷ []) behind);
        is_told = s.is_told ∙ sym (append_assoc s.front (b ∷ []) more);
        is_line = step ∙ next_line (eqb b 10) line (ends s.front) s.is_line ∙ ap (λ (n : ℕ). n + 1) (sym (ends_one_more s.front b));
      }

  differ : (more : List ℕ) (line : ℕ) → Alike wanted told rest more line → (first_lines 1 more ≡ first_lines 1 rest → ⊥) → IsFirstOther wanted told line
  differ more line s apart =
      let k = ends s.front in
      let here : line - 1 ≡ k = omega (arith, s.is_line) in
      let next : line ≡ suc k = omega (arith, s.is_line) in
      record {
        before =
            ap (λ (n : ℕ). first_lines n told) here ∙ ap (first_lines k) s.is_told ∙ front_lines s.front more rest
            ∙ ap (first_lines k) (sym s.is_wanted) ∙ ap (λ (n : ℕ). first_lines n wanted) (sym here);
        other = λ same.
            apart (append_cancel_left s.front (first_lines 1 more) (first_lines 1 rest)
            (sym (line_more s.front more) ∙ ap (first_lines (suc k)) (sym s.is_told) ∙ ap (λ (n : ℕ). first_lines n told) (sym next) ∙ same ∙ ap (λ (n : ℕ). first_lines n wanted) next
            ∙ ap (first_lines (suc k)) s.is_wanted ∙ line_more s.front rest));
      }

nil_is_not_cons : (b : ℕ) (xs : List ℕ) → [] ≡ b ∷ xs → ⊥
nil_is_not_cons b xs e = absurd cc

cons_is_not_nil : (b : ℕ) (xs : List ℕ) → b ∷ xs ≡ [] → ⊥
cons_is_not_nil b xs e = absurd cc

same_byte : (a b : ℕ) (xs ys : List ℕ) → a ∷ xs ≡ b ∷ ys → a ≡ b
same_byte a b xs ys e = cc

none_is_not_some : (xs : List ℕ) → None ≡ Some xs → ⊥
none_is_not_some xs e = absurd cc

byte_apart : (b : ℕ) (more rest : List ℕ) → byte_at b rest ≡ None → first_lines 1 (b ∷ more) ≡ first_lines 1 rest → ⊥
byte_apart b more [] none same = cons_is_not_nil b _ same
byte_apart b more (c ∷ rest) none same =
    let is : b ≡ c = same_byte b c _ _ same in
    none_is_not_some rest (sym none ∙ ap (λ (t : Bool). cond t (Some rest) None) (eq-eqb c b (sym is)))

-- a byte is another, or isn't wanted
pub stops : (wanted told rest : List ℕ) (b : ℕ) (more : List ℕ) (line : ℕ) → Alike wanted told rest (b ∷ more) line → byte_at b rest ≡ None → IsFirstOther wanted told line
stops wanted told rest b more line s none = differ wanted told rest (b ∷ more) line s (byte_apart b more rest none)

rest_apart : (rest : List ℕ) → (rest ≡ [] → ⊥) → first_lines 1 [] ≡ first_lines 1 rest → ⊥
rest_apart [] some same = some refl
rest_apart (c ∷ rest) some same = nil_is_not_cons c _ same

-- more is wanted
pub unended : (wanted told rest : List ℕ) (line : ℕ) → Alike wanted told rest [] line → (rest ≡ [] → ⊥) → IsFirstOther wanted told line
unended wanted told rest line s some = differ wanted told rest [] line s (rest_apart rest some)

-- ---- by the place of the byte in what is told

more_is : (told : List ℕ) (i : ℕ) → i < length told → drop i told ≡ get_or told i 0 ∷ drop (i + 1) told
more_is told i lt = at_drop_more (λ (xs : List ℕ). xs) told i 0 lt

module _ (wanted told rest : List ℕ) (i line : ℕ) (s : Alike wanted told rest (drop i told) line) where
  pub goes_on_at : (behind : List ℕ) (next : ℕ) → i < length told → byte_at (get_or told i 0) rest ≡ Some behind → next ≡ cond (eqb (get_or told i 0) 10) (line + 1) line → Alike wanted told behind (drop (i + 1) told) next
  goes_on_at behind next lt read step = goes_on wanted told rest (get_or told i 0) (drop (i + 1) told) behind line next (subst (λ (xs : List ℕ). Alike wanted told rest xs line) (more_is told i lt) s) read step

  pub stops_at : i < length told → byte_at (get_or told i 0) rest ≡ None → IsFirstOther wanted told line
  stops_at lt none = stops wanted told rest (get_or told i 0) (drop (i + 1) told) line (subst (λ (xs : List ℕ). Alike wanted told rest xs line) (more_is told i lt) s) none

  all_told : length told ≤ i → Alike wanted told rest [] line
  all_told le = subst (λ (xs : List ℕ). Alike wanted told rest xs line) (drop_all i told le) s

  pub unended_at : length told ≤ i → (rest ≡ [] → ⊥) → IsFirstOther wanted told line
  unended_at le some = unended wanted told rest line (all_told le) some

pub few_at : (t : Bool) (line next i : ℕ) → next ≡ cond t (line + 1) line → line ≤ i + 1 → next ≤ i + 1 + 1
few_at true line next i e few = omega (arith, e, few)
few_at false line next i e few = omega (arith, e, few)

true_is_not_false : true ≡ false → ⊥
true_is_not_false e = absurd cc

-- something is left
pub not_empty : (rest : List ℕ) (t : Bool) → t ≡ false → t ≡ eqb (length rest) 0 → rest ≡ [] → ⊥
not_empty rest t unset is none = true_is_not_false (sym (is ∙ ap (λ (xs : List ℕ). eqb (length xs) 0) none) ∙ unset)
