-- What one instruction changes on a desk.
use Rattle.std.proofs.Common.{◌≡◌, ◌≢◌, ℕ, ◌+◌, ◌<◌, Bool, true, false, [], ◌∷◌, ◌++◌, length, refl, sym, ap, ◌∙◌, subst, arith, get_or-set_same, get_or-set_other}
use Rattle.plain_state.specs.declared.kind.Kind.{Kind}
use Rattle.plain_state.specs.declared.sizes.TheConstants.{REGISTERS}
use Rattle.plain_state.specs.declared.value.Value.{Value}
use Rattle.plain_state.specs.declared.value.Value.TheVariants.{Number}
use Rattle.plain_state.specs.State.{Record}
use Rattle.plain_state.specs.Writing.{zeros}
use Rattle.concordance.specs.Desk.{Desk, LeadsTo, desk_register, desk_with_record, desk_with_value, desk_with_word, own}
use Rattle.concordance.specs.Notes.Desks.{ChangesAtMost}
use Rattle.concordance.specs.Notes.Making.{StoresIn}
use Rattle.concordance.proofs.Doing.{with_word_there}

-- ---- registers

-- a register takes a value, and nothing else changes
pub record Loads (a : Desk) (d : ℕ) (v : Value) (b : Desk) : Type 0 where
  pub number : b.number ≡ a.number
  pub records : b.records ≡ a.records
  pub taken : desk_register b d ≡ v
  pub others : (r : ℕ) → r ≢ d → desk_register b r ≡ desk_register a r

pub loads : (a : Desk) (d : ℕ) (v : Value) (b : Desk) → length a.registers ≡ REGISTERS → d < REGISTERS → b ≡ desk_with_value a d v → Loads a d v b
loads a d v b count within is =
    let here : d < length a.registers = omega (arith, count, within) in
    subst (Loads a d v) (sym is)
    (record { number = refl; records = refl; taken = get_or-set_same a.registers d v (Number 0) here; others = λ r other. get_or-set_other a.registers d r v (Number 0) other })

-- ---- a record more

pub record Makes (a : Desk) (kind : Kind) (d n : ℕ) (b : Desk) : Type 0 where
  pub number : b.number ≡ a.number
  pub records : b.records ≡ a.records ++ zeros kind n ∷ []
  pub taken : desk_register b d ≡ own a.number (length a.records + 1)
  pub others : (r : ℕ) → r ≢ d → desk_register b r ≡ desk_register a r

pub makes : (a : Desk) (kind : Kind) (d n : ℕ) (b : Desk) → length a.registers ≡ REGISTERS → d < REGISTERS → b ≡ desk_with_record a kind d n → Makes a kind d n b
makes a kind d n b count within is =
    let here : d < length a.registers = omega (arith, count, within) in
    subst (Makes a kind d n) (sym is)
    (record {
      number = refl;
      records = refl;
      taken = get_or-set_same a.registers d (own a.number (length a.records + 1)) (Number 0) here;
      others = λ r other. get_or-set_other a.registers d r (own a.number (length a.records + 1)) (Number 0) other;
    })

-- ---- a value in a record

pub record Stores (a : Desk) (serial x : ℕ) (v : Value) (b : Desk) : Type 0 where
  pub number : b.number ≡ a.number
  pub records : StoresIn a.records serial x v b.records
  pub registers : (r : ℕ) → desk_register b r ≡ desk_register a r

pub stores : (a : Desk) (to : Value) (r : Record) (leads : LeadsTo a to r) (x : ℕ) (v : Value) (b : Desk) → b ≡ desk_with_word a to x v → Stores a leads.serial x v b
stores a to r leads x v b is =
    subst (Stores a leads.serial x v) (sym (is ∙ with_word_there a to r leads x v))
    (record { number = refl; records = record { old = r; there = leads.found; later_is = refl }; registers = λ n. refl })

-- ---- which registers change

clash : (test : ℕ → Bool) (r d : ℕ) → test r ≡ false → test d ≡ true → r ≢ d
clash test r d off on same = let h : true ≡ false = sym on ∙ (ap test (sym same) ∙ off) in cc

pub loads_change : (test : ℕ → Bool) (a : Desk) (d : ℕ) (v : Value) (b : Desk) → test d ≡ true → Loads a d v b → ChangesAtMost test a b
loads_change test a d v b on l = record { number = l.number; registers = λ r off. l.others r (clash test r d off on) }

pub makes_change : (test : ℕ → Bool) (a : Desk) (kind : Kind) (d n : ℕ) (b : Desk) → test d ≡ true → Makes a kind d n b → ChangesAtMost test a b
makes_change test a kind d n b on l = record { number = l.number; registers = λ r off. l.others r (clash test r d off on) }

pub stores_change : (test : ℕ → Bool) (a : Desk) (serial x : ℕ) (v : Value) (b : Desk) → Stores a serial x v b → ChangesAtMost test a b
stores_change test a serial x v b s = record { number = s.number; registers = λ r off. s.registers r }

pub changes_then : (test : ℕ → Bool) (a b c : Desk) → ChangesAtMost test a b → ChangesAtMost test b c → ChangesAtMost test a c
changes_then test a b c first second = record { number = second.number ∙ first.number; registers = λ r off. second.registers r off ∙ first.registers r off }

pub changes_more : (test wider : ℕ → Bool) (a b : Desk) → ((r : ℕ) → wider r ≡ false → test r ≡ false) → ChangesAtMost test a b → ChangesAtMost wider a b
changes_more test wider a b within change = record { number = change.number; registers = λ r off. change.registers r (within r off) }
