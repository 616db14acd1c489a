-- The action of a mutator that makes an access, and that of its plain mutator.
use Rattle.std.proofs.Common.{◌≡◌, ℕ, ◌<◌, Some, Ok, refl, ap, subst, ◌∙◌, arith}
use Rattle.std.specs.Prelude.{⊤, Result}
use Rattle.std.specs.Result.{IfOk}
use Rattle.plain_state.specs.declared.end.End.{End}
use Rattle.plain_state.specs.declared.value.Value.{Value}
use Rattle.plain_state.specs.declared.value.Value.TheVariants.{Number, Reference}
use Rattle.plain_state.specs.declared.value.Identity.{Identity}
use Rattle.plain_state.specs.declared.sizes.TheConstants.{NUMBERS}
use Rattle.plain_state.specs.State.{Mutator, Plain}
use Rattle.plain_heap.specs.declared.action.Action.{Action}
use Rattle.plain_heap.specs.Action.{◌>>=◌, action}
use Rattle.plain_heap.specs.Call.{After, call, performed}
use Rattle.plain_heap.proofs.Calls.Named.{Names}
use Rattle.heap_words.specs.Decoded.{Decoded, NumberWord, PointerWord, decode}
use Rattle.heap_words.specs.Word.{number_word, pointer_word}
use Rattle.heap_words.proofs.Decoding.{decode-number_word, decode-pointer_word}
use Rattle.heap_state.specs.Configuration.{Configuration, Stands, era, memory, team}
use Rattle.heap_state.specs.Memory.Era.{Era}
use Rattle.heap_state.specs.Invariant.Ghost.{Ghost}
use Rattle.heap_state.specs.Meaning.Values.{value_of, value_said}
use Rattle.heap_laws.specs.Fields.Held.{HoldsValue}
use Rattle.heap_laws.specs.Fields.Words.{IsLedTo}
use Rattle.heap_laws.proofs.Fields.Shown.{headers_are_read, numbers_are_held}
use Rattle.record_access.specs.declared.access_stage.AccessStage.{AccessStage}
use Rattle.record_access.specs.Access.{IsHeapAddress}
use Rattle.gc_worker.specs.Workers.Fits.{ExecutesAction}
use Rattle.gc_worker.specs.Steps.Goes.{Is}
use Rattle.gc_worker.specs.Workers.Held.{Held}
use Rattle.record_access.specs.Seen.{IsValueAs, IsValueWord}
use Rattle.gc_worker.specs.Plain.Seen.{seen}
use Rattle.gc_worker.proofs.Plain.Actions.{plain_action, plain_outcome}
use Rattle.gc_worker.proofs.Plain.Registers.{alike, held, small_number, Holds}
use Rattle.gc_worker.proofs.Plain.AnswerSteps.{IsIts, its_mutator}
use Rattle.gc_worker.proofs.Stages.Access.NextAccessStage.{at, no_end, ready}

-- ---- numbers

pub decode_number : (n : ℕ) → n < NUMBERS → decode (number_word n) ≡ NumberWord n
decode_number n small = decode-number_word n small

-- a number's word holds it
number_value : (identity : ℕ → Identity) (n : ℕ) → n < NUMBERS → value_of identity (number_word n) ≡ Some (Number n)
unfolding value_of
number_value identity n small = rw (decode_number n small) refl

pub number_held : (E : Era) (g : Ghost) (n : ℕ) → n < NUMBERS → HoldsValue E g (number_word n) (Number n)
number_held E g n small =
    record { held = numbers_are_held E g.size g.writer (number_word n) n (decode_number n small); denotes = number_value g.identity n small }

-- a number is one of the language
abbrev pub IsSmall : Value → Type 0
IsSmall (Number n) = n < NUMBERS
IsSmall (Reference i) = ⊤

-- ---- words

-- a word that denotes a value is a value's
said_value : (identity : ℕ → Identity) (d : Decoded) (v : Value) → value_said identity d ≡ Some v → IsValueAs d
said_value identity (NumberWord n) v is = tt
said_value identity (PointerWord a) v is = tt
said_value identity _ v is = absurd (cc)

pub value_word : (identity : ℕ → Identity) (w : ℕ) (v : Value) → value_of identity w ≡ Some v → IsValueWord w
unfolding value_of
value_word identity w v is = said_value identity (decode w) v is

-- ---- the mutator

module _ (c : Configuration) (p : Plain) (s : Stands c p) (k : ℕ) (y : Held) (stage : AccessStage) (is : Is c k (at c p s k y stage)) where
  abbrev pub q : Mutator
  q = (its_mutator c p s k (at c p s k y stage) is refl (no_end c p s k y stage is)).0

  pub its : IsIts c p s k (at c p s k y stage) q
  its = (its_mutator c p s k (at c p s k y stage) is refl (no_end c p s k y stage is)).1

  -- what is held of a value that the action names
  abbrev pub Held_value : Value → Type 0
  Held_value = Holds c p s k (at c p s k y stage) is refl (no_end c p s k y stage is) q its

  pub is_small : (v : Value) → Held_value v → IsSmall v
  is_small (Number n) holds = small_number c p s k (at c p s k y stage) is refl (no_end c p s k y stage is) q its n holds
  is_small (Reference i) holds = tt

  module _ (act : Action) (executes : ExecutesAction y.account y.registers y.task act) where
    acts : action q executes.instr ≡ Ok (plain_action s.ghost.identity act)
    acts = alike c p s k (at c p s k y stage) is refl (no_end c p s k y stage is) q its executes.instr executes.call.valid ∙ ap (plain_outcome s.ghost.identity) executes.acts

    pub calls : (r : Result After End) → performed k p.heap q (plain_action s.ghost.identity act) ≡ r → call k p.heap q executes.instr ≡ r
    unfolding call
    calls r e = ap (λ (a : Result Action End). a >>= performed k p.heap q) acts ∙ e

    pub names : Names Held_value ⊤ (seen y.account y.registers) act
    names = subst (λ (a : Result Action End). IfOk a (Names Held_value ⊤ (seen y.account y.registers))) executes.acts
        (held c p s k (at c p s k y stage) is refl (no_end c p s k y stage is) q its executes.instr executes.call.valid)

  -- a record that it names is there
  pub led : (a : ℕ) → IsHeapAddress y.layout.pages a → Held_value (Reference (record { mutator = 0; serial = a })) → IsLedTo (era c) (memory c) s.ghost p a
  led a inside holds =
      headers_are_read (era c) (memory c) (team c) s.ghost p k (pointer_word a) a (ready c p s k y stage is) s.shown holds.held
      (decode-pointer_word a (let n = is.fits.stage.sound.pages in omega (arith, n.1, inside)))
