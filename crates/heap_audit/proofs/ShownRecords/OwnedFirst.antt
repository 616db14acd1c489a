-- By identity the first address of a record with a header of its own, with one record more.
use Rattle.std.proofs.Common.{◌≡◌, ℕ, ◌+◌, ◌^◌, ◌<◌, ◌≤◌, List, [], ◌∷◌, ◌++◌, Option, Some, get_or, length, map, take, refl, sym, ap, ◌∙◌, subst, arith, ⊎_elim}
use Rattle.std.specs.List.{Contains}
use Rattle.std.proofs.lemmas.List.{take_all}
use Rattle.std.proofs.lemmas.List.Elements.{Contains-append_left, Contains-push, Contains-push_cases}
use Rattle.plain_state.specs.declared.value.Identity.{Identity}
use Rattle.heap_state.specs.Meaning.Denotes.{named_by}
use Rattle.heap_state.specs.Meaning.Dump.{Dump}
use Rattle.heap_state.specs.Meaning.Represents.{own_header}
use Rattle.heap_state.specs.Memory.Walk.{Walked}
use Rattle.heap_audit.specs.Firsts.{TellsFirst, least}
use Rattle.heap_audit.specs.Records.{NoneOwned, key_of}
use Rattle.heap_audit.specs.Walks.{walked}
use Rattle.heap_audit.specs.declared.walks.RecordAt.{RecordAt}
use Rattle.heap_audit.proofs.WalkedSpaces.Leasts.{first_least, first_same}
use Rattle.heap_audit.proofs.ShownRecords.RecordsSoFar.{walked_more}

-- identities with the same number are the same
pub same_identity : (i j : Identity) → i.serial < 2 ^ 40 → j.serial < 2 ^ 40 → key_of i ≡ key_of j → i ≡ j
same_identity i j short few e =
    let m : i.mutator ≡ j.mutator = omega arith in
    let s : i.serial ≡ j.serial = omega arith in
    λ x. record { mutator = m x; serial = s x }

module _ (d : Dump) (rs : List RecordAt) (i : ℕ) (z r : RecordAt) (inside : i < length rs) (is : get_or rs i z ≡ r) (j : Identity) where
  abbrev before : List Walked
  before = map walked (take i rs)

  abbrev after : List Walked
  after = map walked (take (i + 1) rs)

  -- it isn't this record
  abbrev NotIt : ℕ → Type 0
  NotIt a = r.at ≡ a → named_by (own_header d r.at) ≡ Some j → ⊥

  one_more : after ≡ before ++ walked r ∷ []
  one_more = walked_more rs i z r inside is

  to_all : (a : ℕ) → NoneOwned d before j a × NotIt a → NoneOwned d after j a
  to_all a both w has at named = ⊎_elim
      (λ old. both.0 w old at named)
      (λ (same : walked r ≡ w). both.1 (ap (λ (v : Walked). v.at) same ∙ at) (ap (λ (v : Walked). named_by (own_header d v.at)) same ∙ named))
      (Contains-push_cases before (walked r) w (subst (λ (xs : List Walked). Contains xs w) one_more has))

  from_all : (a : ℕ) → NoneOwned d after j a → NoneOwned d before j a × NotIt a
  from_all a none = (
    λ w has at named. none w (subst (λ (xs : List Walked). Contains xs w) (sym one_more) (Contains-append_left before (walked r ∷ []) w has)) at named,
    λ at named. none (walked r) (subst (λ (xs : List Walked). Contains xs (walked r)) (sym one_more) (Contains-push before (walked r))) at named,
  )

  -- one that hasn't the identity changes nothing
  pub other_owned : (o : Option ℕ) → (named_by (own_header d r.at) ≡ Some j → ⊥) → TellsFirst (NoneOwned d before j) o → TellsFirst (NoneOwned d after j) o
  other_owned o apart first = first_same (NoneOwned d before j) (NoneOwned d after j) o (λ a none. to_all a (none, λ at. apart)) (λ a none. (from_all a none).0) first

  -- one that has it may be the first
  pub one_owned : (o : Option ℕ) → named_by (own_header d r.at) ≡ Some j → TellsFirst (NoneOwned d before j) o → TellsFirst (NoneOwned d after j) (least o (Some r.at))
  one_owned o named first = first_same (λ a. NoneOwned d before j a × NotIt a) (NoneOwned d after j) (least o (Some r.at)) to_all from_all
      (first_least (NoneOwned d before j) NotIt o (Some r.at) first ((λ it. it refl named), (λ a l at. absurd (omega arith))))

pub owned_all : (d : Dump) (rs : List RecordAt) (i : ℕ) (j : Identity) (o : Option ℕ) → length rs ≤ i → TellsFirst (NoneOwned d (map walked (take i rs)) j) o
    → TellsFirst (NoneOwned d (map walked rs) j) o
owned_all d rs i j o all first = subst (λ (xs : List RecordAt). TellsFirst (NoneOwned d (map walked xs) j) o) (take_all i rs all) first
