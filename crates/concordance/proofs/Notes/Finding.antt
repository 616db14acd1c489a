-- What is found on the path of a word.
use Rattle.std.proofs.Common.{◌≡◌, ◌≢◌, ⊎_elim, inl, inr, ℕ, ◌+◌, ◌<◌, ◌≤◌, List, [], ◌∷◌, refl, sym, ap, ◌∙◌, subst, arith}
use Rattle.std.proofs.lemmas.Bool.{cases_eq, cases_lt}
use Rattle.plain_state.specs.declared.value.Value.{Value}
use Rattle.plain_state.specs.declared.value.Value.TheVariants.{Number}
use Rattle.plain_state.specs.State.{Record}
use Rattle.concordance_text.specs.Rows.{IsElementOf}
use Rattle.concordance.specs.Notes.Invariant.{AreApart, AreKept, AreTwo}
use Rattle.concordance.specs.Notes.Paths.{reached, turns_of}
use Rattle.concordance.specs.Notes.Places.{HasNone, PassesOthers}
use Rattle.concordance.specs.Desk.{own}
use Rattle.concordance.specs.Notes.Records.{Note}
use Rattle.concordance.proofs.Lists.Elements.{all_at, all_by}
use Rattle.concordance.proofs.Notes.Turns.{ended, same_reference, somewhere}

-- of two notes with one serial there is one
pub same_serial : (notes : List Note) (e f : Note) → AreApart notes → IsElementOf e notes → IsElementOf f notes → e.serial ≡ f.serial → e ≡ f
same_serial [] e f apart at at' same = absurd at
same_serial (g ∷ gs) e f apart (inl i) (inl j) same = i ∙ sym j
same_serial (g ∷ gs) e f apart (inl i) (inr at') same = absurd ((all_at (AreTwo g) gs f apart.0 at').serials (sym same ∙ ap (λ (n : Note). n.serial) i))
same_serial (g ∷ gs) e f apart (inr at) (inl j) same = absurd ((all_at (AreTwo g) gs e apart.0 at).serials (same ∙ ap (λ (n : Note). n.serial) j))
same_serial (g ∷ gs) e f apart (inr at) (inr at') same = same_serial gs e f apart.1 at at' same

module _ (m : ℕ) (records : List Record) (first latest : Value) (notes : List Note) (kept : AreKept m records first latest notes) (word : List ℕ) where
  -- nothing is passed at first
  pub passes_none : PassesOthers m records first notes word 0
  passes_none d e less at is = absurd (omega arith)

  -- one more entry that is of another word
  pub passes_one : (depth : ℕ) (here : Note) → PassesOthers m records first notes word depth → IsElementOf here notes → reached records first (turns_of word) depth ≡ own m here.serial → here.word ≢ word
      → PassesOthers m records first notes word (depth + 1)
  passes_one depth here passed noted reaches other d e less at is = ⊎_elim
      (λ (same : d ≡ depth).
      let there : own m here.serial ≡ own m e.serial = sym reaches ∙ (ap (reached records first (turns_of word)) (sym same) ∙ is) in
      let serials : here.serial ≡ e.serial = same_reference m here.serial e.serial there in
      subst (λ (f : Note). f.word ≢ word) (same_serial notes here e kept.apart noted at serials) other)
      (λ (apart : d ≢ depth). passed d e (omega arith) at is)
      (cases_eq d depth)

  -- If the path has ended, and no entry on it is of the word, none is at all: each entry stands on its word's path.
  pub none_behind : (depth : ℕ) → PassesOthers m records first notes word depth → reached records first (turns_of word) depth ≡ Number 0 → HasNone notes word
  none_behind depth passed ends = all_by (λ (e : Note). e.word ≢ word) notes (λ e at same. contradiction e at same)
    where
      contradiction : (e : Note) → IsElementOf e notes → e.word ≡ word → ⊥
      contradiction e at same =
          let f = all_at (λ (g : Note). (d : ℕ) × (reached records first (turns_of g.word) d ≡ own m g.serial)) notes e kept.found at in
          let there : reached records first (turns_of word) f.0 ≡ own m e.serial = subst (λ w. reached records first (turns_of w) f.0 ≡ own m e.serial) same f.1 in
          ⊎_elim
          (λ (before : f.0 < depth). passed f.0 e before at there same)
          (λ (past : depth ≤ f.0). somewhere m e.serial (sym there ∙ ended records first (turns_of word) depth f.0 ends past))
          (cases_lt f.0 depth)

-- where the first entry is none there are no notes
pub none_at_all : (m : ℕ) (records : List Record) (latest : Value) (notes : List Note) → AreKept m records (Number 0) latest notes → notes ≡ []
none_at_all m records latest [] kept = refl
none_at_all m records latest (e ∷ es) kept =
    let f = kept.found.0 in
    absurd (somewhere m e.serial (sym f.1 ∙ ended records (Number 0) (turns_of e.word) 0 f.0 refl (omega arith)))
