-- The record that was made last, while its values are stored.
use Rattle.std.proofs.Common.{◌≡◌, ◌≢◌, ℕ, ◌+◌, ◌<◌, List, [], ◌∷◌, ◌++◌, length, sym, ap, ◌∙◌, subst}
use Rattle.std.specs.Prelude.{IsOk}
use Rattle.plain_state.specs.declared.kind.Kind.{Kind}
use Rattle.plain_state.specs.declared.value.Value.{Value}
use Rattle.plain_state.specs.State.{Record, at_serial}
use Rattle.plain_state.specs.Writing.{with_value, zeros}
use Rattle.plain_heap.specs.Call.{may_hold}
use Rattle.concordance.specs.Desk.{Desk, LeadsTo, MayTake, desk_register, desk_with_word, own}
use Rattle.concordance.specs.Notes.Making.{StoresIn}
use Rattle.concordance.proofs.Desks.Instructions.{Loads, Makes, stores}
use Rattle.concordance.proofs.Lists.LastRecord.{stores_last}
use Rattle.concordance.proofs.Lists.Serials.{at_behind}

-- a register leads to the record that was made behind these
pub record IsFresh (base : List Record) (r : Record) (register : ℕ) (desk : Desk) : Type 0 where
  pub records : desk.records ≡ base ++ r ∷ []
  pub leads : desk_register desk register ≡ own desk.number (length base + 1)

pub fresh_made : (a : Desk) (kind : Kind) (d n : ℕ) (b : Desk) → Makes a kind d n b → IsFresh a.records (zeros kind n) d b
fresh_made a kind d n b made = record { records = made.records; leads = made.taken ∙ ap (λ (m : ℕ). own m (length a.records + 1)) (sym made.number) }

module _ (base : List Record) (r : Record) (register : ℕ) (b : Desk) (fresh : IsFresh base r register b) where
  abbrev pub fresh_leads : LeadsTo b (desk_register b register) r
  fresh_leads = record { serial = length base + 1; is = fresh.leads; found = ap (λ (rs : List Record). at_serial rs (length base + 1)) fresh.records ∙ at_behind base (r ∷ []) 0 }

  -- another register takes a value
  pub fresh_loads : (d : ℕ) (v : Value) (c : Desk) → register ≢ d → Loads b d v c → IsFresh base r register c
  fresh_loads d v c other l = record { records = l.records ∙ fresh.records; leads = l.others register other ∙ (fresh.leads ∙ ap (λ (m : ℕ). own m (length base + 1)) (sym l.number)) }

  -- it takes a value
  pub fresh_takes : (x : ℕ) (v : Value) → x < length r.values → IsOk (may_hold r.kind x v) → MayTake b (desk_register b register) x v
  fresh_takes x v within holds = record { found = r; leads = fresh_leads; within = within; holds = holds }

  pub fresh_stores : (x : ℕ) (v : Value) (c : Desk) → c ≡ desk_with_word b (desk_register b register) x v → IsFresh base (with_value r x v) register c
  fresh_stores x v c is =
      let s = stores b (desk_register b register) r fresh_leads x v c is in
      record {
        records = stores_last base r x v c.records (subst (λ (rs : List Record). StoresIn rs (length base + 1) x v c.records) fresh.records s.records);
        leads = s.registers register ∙ (fresh.leads ∙ ap (λ (m : ℕ). own m (length base + 1)) (sym s.number));
      }

  -- the registers are the same then
  pub fresh_registers : (x : ℕ) (v : Value) (c : Desk) → c ≡ desk_with_word b (desk_register b register) x v → (n : ℕ) → desk_register c n ≡ desk_register b n
  fresh_registers x v c is n = (stores b (desk_register b register) r fresh_leads x v c is).registers n

  pub fresh_number : (x : ℕ) (v : Value) (c : Desk) → c ≡ desk_with_word b (desk_register b register) x v → c.number ≡ b.number
  fresh_number x v c is = (stores b (desk_register b register) r fresh_leads x v c is).number
