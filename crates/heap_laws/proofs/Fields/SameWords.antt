-- Words that a mutator may hold are equal exactly where they denote the same value.
use Rattle.std.proofs.Common.{◌≡◌, ℕ, ◌+◌, ◌<◌, ◌≤◌, ◌↔◌, Some, refl, sym, ap, ◌∙◌, ⊎_elim}
use Rattle.heap_words.specs.Decoded.{Decoded, NumberWord, PointerWord, decode}
use Rattle.heap_words.proofs.Spelling.{number_word-decode, pointer_word-decode}
use Rattle.heap_words.specs.Word.{number_word, pointer_word}
use Rattle.plain_state.specs.declared.value.Identity.{Identity}
use Rattle.plain_state.specs.declared.value.Value.{Value}
use Rattle.plain_state.specs.declared.value.Value.TheVariants.{Number, Reference}
use Rattle.heap_state.specs.Memory.Era.{Era, Memory}
use Rattle.heap_state.specs.Invariant.Ghost.{Ghost, Leads, Lands}
use Rattle.heap_state.specs.Meaning.Values.{value_said, value_of}
use Rattle.heap_state.specs.Known.{Team}
use Rattle.heap_state.proofs.Puts.{some_same, none≢some}
use Rattle.heap_laws.specs.Fields.Held.{MayHold, HoldsValue, SameWords}
use Rattle.heap_laws.specs.Steps.{Ready}

-- what a word that denotes a value is
data Spelled (identity : ℕ → Identity) (w : ℕ) : Value → Type 0 where
  AsNumber : (n : ℕ) → w ≡ number_word n → Spelled identity w (Number n)
  AsPointer : (a : ℕ) → decode w ≡ PointerWord a → w ≡ pointer_word a → Spelled identity w (Reference (identity a))

spelled : (identity : ℕ → Identity) (w : ℕ) (x : Value) → value_of identity w ≡ Some x → Spelled identity w x
unfolding value_of
spelled identity w x e = by_word (decode w) refl e
  where
    by_word : (d : Decoded) → decode w ≡ d → value_said identity d ≡ Some x → Spelled identity w x
    by_word (NumberWord n) f q = rw (← some_same q) (AsNumber n (number_word-decode w n f))
    by_word (PointerWord a) f q = rw (← some_same q) (AsPointer a f (pointer_word-decode w a f))
    by_word _ f q = none≢some q

module _ (E : Era) (m : Memory) (team : Team) (g : Ghost) (k : ℕ) (ready : Ready E m team g k) where
  -- a pointer that a mutator may hold leads to a record of the epoch's space
  held_place : (w a : ℕ) → MayHold E g.size g.writer w → decode w ≡ PointerWord a → (0 < g.size a) × ((E.old_start ≤ a) × (a < E.old_start + E.old_span) → ⊥)
  unfolding Leads Lands
  held_place w a may e = ((may.lands a e).0, λ o. may.clean (a, e, o.0, o.1))

  -- and so the only one of its identity
  one_place : (a b : ℕ) → (0 < g.size a) × ((E.old_start ≤ a) × (a < E.old_start + E.old_span) → ⊥) → (0 < g.size b) × ((E.old_start ≤ b) × (b < E.old_start + E.old_span) → ⊥) → g.identity a ≡ g.identity b → a ≡ b
  one_place a b x y e = ⊎_elim (λ q. q)
      (λ o. ⊎_elim
      (λ c. absurd (let t = ready.invariant.copied.target a b x.0 c in x.1 (t.0, t.1)))
      (λ c. absurd (let t = ready.invariant.copied.target b a y.0 c in y.1 (t.0, t.1))) o)
      (ready.invariant.once.once a b x.0 y.0 e)

  by_spelling : (v w : ℕ) (x y : Value) → HoldsValue E g v x → HoldsValue E g w y → Spelled g.identity v x → Spelled g.identity w y → x ≡ y → v ≡ w
  by_spelling v w _ _ hv hw (AsNumber n e) (AsNumber o f) q = let z : n ≡ o = cc in e ∙ ap number_word z ∙ sym f
  by_spelling v w _ _ hv hw (AsNumber n e) (AsPointer a d f) q = absurd (cc)
  by_spelling v w _ _ hv hw (AsPointer a d e) (AsNumber n f) q = absurd (cc)
  by_spelling v w _ _ hv hw (AsPointer a d e) (AsPointer b c f) q =
      let z : g.identity a ≡ g.identity b = cc in
      e ∙ ap pointer_word (one_place a b (held_place v a hv.held d) (held_place w b hw.held c) z) ∙ sym f

  pub same : (v w : ℕ) (x y : Value) → HoldsValue E g v x → HoldsValue E g w y → (v ≡ w) ↔ (x ≡ y)
  same v w x y hv hw = (
    λ e. some_same (sym hv.denotes ∙ ap (value_of g.identity) e ∙ hw.denotes),
    by_spelling v w x y hv hw (spelled g.identity v x hv.denotes) (spelled g.identity w y hw.denotes),
  )

pub same_words : SameWords
same_words E m team g k v w x y ready hv hw = same E m team g k ready v w x y hv hw
