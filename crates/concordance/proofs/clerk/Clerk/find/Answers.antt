use Rattle.std.proofs.Common.{◌≡◌, ◌≢◌, ℕ, Bool, false, List, refl, sym, ap, ◌∙◌, subst, arith}
use Rattle.std.proofs.lemmas.Bool.Decides.{nat_tests}
use Rattle.plain_state.specs.declared.value.Value.{Value}
use Rattle.plain_state.specs.declared.value.Value.TheVariants.{Number}
use Rattle.mutator_asm.specs.declared.instr.Instr.TheVariants.{Ld}
use Rattle.mutator_asm.specs.declared.operand.Operand.{Operand}
use Rattle.mutator_asm.specs.declared.operand.Operand.TheVariants as operands
use Rattle.concordance_text.specs.Words.{Mention}
use Rattle.concordance.specs.Desk.{CanDo, desk_after, desk_register, own}
use Rattle.ael_threads.specs.Seats.{Seated}
use Rattle.concordance.specs.Lone.{desk_of}
use Rattle.concordance.specs.Notes.Desks.{ChangesAtMost, HasNoted, for_finding, for_letters}
use Rattle.concordance.specs.Notes.Paths.{doubled, is_high, side, turn_from}
use Rattle.concordance.specs.Notes.Places.{PathEndsAt, HasNone}
use Rattle.concordance.specs.Notes.Records.{Note}
use Rattle.concordance.specs.declared.registers.TheConstants.{FIRST, HERE, NEXT}
use Rattle.concordance.proofs.Desks.Instructions.{Loads, changes_more, changes_then, loads, loads_change}
use Rattle.concordance.proofs.Desks.Searched.{begins_there, can_turn, ends_there, entry_here, found_here, goes_there, is_at_entry, its_entry, none_found, turns}
use Rattle.concordance.proofs.Desks.Seats.{StaysWith, seat_then}
use Rattle.concordance.proofs.Notes.Search.{IsOnPath, on_path_too}
use Rattle.concordance.proofs.Shown.{all_registers}
use Rattle.concordance.proofs.clerk.Clerk.find.Goals as goal

pub returns-then-holds-clause-place : goal.returns-then-holds-clause-place
returns-then-holds-clause-place g c notes noted holds = let none = c.holds.ensures.0 c.if-holds.true in (none_found c.args.self.now notes noted holds c.args.word.now none, none)

letters_within : (r : ℕ) → for_finding r ≡ false → for_letters r ≡ false
letters_within r off = grind (arith, nat_tests)

pub loop-init : goal.loop-init
loop-init g c =
    let l = loads (desk_of c.args.self.now) HERE (desk_register (desk_of c.args.self.now) FIRST) (desk_of c.does.new.self) (all_registers c.args.self.now) (omega arith) c.does.ensures.desk in (
      record {
        same = c.does.ensures.same;
        lone = c.does.ensures.lone;
        records = l.records;
        others = loads_change for_finding (desk_of c.args.self.now) HERE (desk_register (desk_of c.args.self.now) FIRST) (desk_of c.does.new.self) refl l;
      },
      λ notes noted holds. begins_there c.args.self.now notes noted holds c.args.word.now (desk_register (desk_of c.does.new.self) HERE) c.new-path.result
          (λ e. let yes = c.holds.ensures.1 e in let no = c.if-holds.false in cc) l.taken c.new-path.ensures,
    )

pub is_of-requires-clause-entry : goal.is_of-requires-clause-entry
is_of-requires-clause-entry g c =
    let i = c.loop.invariant in
    let n = c.requires.notes in
    is_at_entry c.args.self.now n.is.notes n.noted n.is.holds c.args.word.now c.loop.self c.loop.path i.0.others.number i.0.records (i.1 n.is.notes n.noted n.is.holds)

pub returns-then-is_of-clause-place : goal.returns-then-is_of-clause-place
returns-then-is_of-clause-place g c notes noted holds =
    let i = c.loop.invariant in
    let on = i.1 notes noted holds in
    let h = its_entry c.args.self.now notes noted holds c.args.word.now c.loop.self c.loop.path i.0.others.number i.0.records on in
    let e = entry_here c.args.self.now notes noted holds c.args.word.now c.loop.self c.loop.path i.0.others.number i.0.records on h in
    let answer = c.is_of.ensures.answer on.note h.before e in
    found_here c.args.self.now notes noted holds c.args.word.now c.loop.self c.loop.path i.0.others.number i.0.records on (desk_of c.is_of.new.self).number (desk_register (desk_of c.is_of.new.self) HERE)
    (c.is_of.ensures.others.number ∙ i.0.others.number) (c.is_of.ensures.others.registers HERE refl) (answer.0 c.if-is_of.true)

-- the entry that is here, after its letters were compared
module _ (a s t : Seated) (notes : List Note) (noted : List Mention) (holds : HasNoted (desk_of a) notes noted) (word : List ℕ) (bits : ℕ) (stays : StaysWith for_finding a s) (records : (desk_of t).records ≡ (desk_of s).records) (change : ChangesAtMost for_letters (desk_of s) (desk_of t))
    (on : IsOnPath (desk_of a).number (desk_of a).records (desk_register (desk_of a) FIRST) notes word (desk_register (desk_of s) HERE) bits) where
  abbrev number_there : (desk_of t).number ≡ (desk_of a).number
  number_there = change.number ∙ stays.others.number

  abbrev records_there : (desk_of t).records ≡ (desk_of a).records
  records_there = records ∙ stays.records

  abbrev first_there : desk_register (desk_of t) FIRST ≡ desk_register (desk_of a) FIRST
  first_there = change.registers FIRST refl ∙ stays.others.registers FIRST refl

  abbrev on_there : IsOnPath (desk_of a).number (desk_of a).records (desk_register (desk_of a) FIRST) notes word (desk_register (desk_of t) HERE) bits
  on_there = on_path_too (desk_of a).number (desk_of a).records (desk_register (desk_of a) FIRST) notes word (desk_register (desk_of s) HERE) bits (desk_register (desk_of t) HERE) on (change.registers HERE refl)

  can : (right : Bool) → CanDo (desk_of t) (Ld NEXT HERE (operands.Number (side right)))
  can right = can_turn a notes noted holds word t bits number_there records_there on_there right

  taken : (right : Bool) (u : Seated) → desk_of u ≡ desk_after (desk_of t) (Ld NEXT HERE (operands.Number (side right))) → Loads (desk_of t) NEXT (turn_from (desk_of a).records (own (desk_of a).number on.note.serial) right) (desk_of u)
  taken right u is = turns a notes noted holds word t bits number_there records_there on_there right u is

  ends : on.note.word ≢ word → (right : Bool) → right ≡ is_high bits → (u : Seated) → desk_of u ≡ desk_after (desk_of t) (Ld NEXT HERE (operands.Number (side right))) → desk_register (desk_of u) NEXT ≡ Number 0
      → HasNone notes word × PathEndsAt (desk_of u).number (desk_of u).records (desk_register (desk_of u) FIRST) notes word (desk_register (desk_of u) HERE) right
  ends other right turn u is none =
      let l = taken right u is in
      ends_there a notes noted holds word t bits number_there records_there on_there other right turn (sym l.taken ∙ none) (desk_of u).number (desk_of u).records (desk_register (desk_of u) FIRST) (desk_register (desk_of u) HERE) (l.number ∙ number_there) (l.records ∙ records_there)
      (l.others FIRST (λ same. absurd (omega arith)) ∙ first_there) (l.others HERE (λ same. absurd (omega arith)))

  goes : on.note.word ≢ word → (right : Bool) → right ≡ is_high bits → (u : Seated) → desk_of u ≡ desk_after (desk_of t) (Ld NEXT HERE (operands.Number (side right))) → desk_register (desk_of u) NEXT ≢ Number 0 → (v : Value) (rest : ℕ) → v ≡ desk_register (desk_of u) NEXT → rest ≡ doubled bits
      → IsOnPath (desk_of a).number (desk_of a).records (desk_register (desk_of a) FIRST) notes word v rest
  goes other right turn u is some v rest is_v is_rest =
      let l = taken right u is in
      goes_there a notes noted holds word t bits number_there records_there on_there other right turn (λ e. some (l.taken ∙ e)) v rest (is_v ∙ l.taken) is_rest

pub does-requires-in-loop-clause-can : goal.does-requires-in-loop-clause-can
does-requires-in-loop-clause-can g c =
    let i = c.loop.invariant in
    let n = c.requires.notes in
    let o = c.is_of.ensures in
    subst (λ (x : Operand). CanDo (desk_of c.is_of.new.self) (Ld NEXT HERE x)) (sym c.side.ensures)
    (can c.args.self.now c.loop.self c.is_of.new.self n.is.notes n.noted n.is.holds c.args.word.now c.loop.path i.0 o.records o.others (i.1 n.is.notes n.noted n.is.holds) c.turns_right-right.result)

pub returns-then-holds-2-clause-place : goal.returns-then-holds-2-clause-place
returns-then-holds-2-clause-place g c notes noted holds =
    let i = c.loop.invariant in
    let o = c.is_of.ensures in
    let on = i.1 notes noted holds in
    let h = its_entry c.args.self.now notes noted holds c.args.word.now c.loop.self c.loop.path i.0.others.number i.0.records on in
    let e = entry_here c.args.self.now notes noted holds c.args.word.now c.loop.self c.loop.path i.0.others.number i.0.records on h in
    let answer = o.answer on.note h.before e in
    let no = c.if-is_of.false in
    ends c.args.self.now c.loop.self c.is_of.new.self notes noted holds c.args.word.now c.loop.path i.0 o.records o.others on (λ same. let yes = answer.1 same in cc) c.turns_right-right.result c.turns_right-right.ensures.turn c.does-in-loop.new.self
    (c.does-in-loop.ensures.desk ∙ ap (λ (x : Operand). desk_after (desk_of c.is_of.new.self) (Ld NEXT HERE x)) c.side.ensures) (c.holds-in-loop.ensures.0 c.if-holds-2.true)

pub loop-preserved : goal.loop-preserved
loop-preserved g c =
    let i = c.loop.invariant in
    let o = c.is_of.ensures in
    let is = c.does-in-loop.ensures.desk ∙ ap (λ (x : Operand). desk_after (desk_of c.is_of.new.self) (Ld NEXT HERE x)) c.side.ensures in
    let l = loads (desk_of c.is_of.new.self) NEXT _ (desk_of c.does-in-loop.new.self) (all_registers c.is_of.new.self) (omega arith) is in
    let k = loads (desk_of c.does-in-loop.new.self) HERE (desk_register (desk_of c.does-in-loop.new.self) NEXT) (desk_of c.does-in-loop-2.new.self) (all_registers c.does-in-loop.new.self) (omega arith) c.does-in-loop-2.ensures.desk in (
      record {
        same = seat_then c.args.self.now c.loop.self c.does-in-loop-2.new.self i.0.same
            (seat_then c.loop.self c.is_of.new.self c.does-in-loop-2.new.self o.same (seat_then c.is_of.new.self c.does-in-loop.new.self c.does-in-loop-2.new.self c.does-in-loop.ensures.same c.does-in-loop-2.ensures.same));
        lone = c.does-in-loop-2.ensures.lone;
        records = k.records ∙ (l.records ∙ (o.records ∙ i.0.records));
        others = changes_then for_finding _ _ _ i.0.others (changes_then for_finding _ _ _ (changes_more for_letters for_finding _ _ letters_within o.others)
            (changes_then for_finding _ _ _ (loads_change for_finding _ NEXT _ _ refl l) (loads_change for_finding _ HERE _ _ refl k)));
      },
      λ notes noted holds.
          let on = i.1 notes noted holds in
          let h = its_entry c.args.self.now notes noted holds c.args.word.now c.loop.self c.loop.path i.0.others.number i.0.records on in
          let e = entry_here c.args.self.now notes noted holds c.args.word.now c.loop.self c.loop.path i.0.others.number i.0.records on h in
          let answer = o.answer on.note h.before e in
          let no = c.if-is_of.false in
          let some = c.if-holds-2.false in
          goes c.args.self.now c.loop.self c.is_of.new.self notes noted holds c.args.word.now c.loop.path i.0 o.records o.others on (λ same. let yes = answer.1 same in cc) c.turns_right-right.result c.turns_right-right.ensures.turn c.does-in-loop.new.self is
          (λ none. let yes = c.holds-in-loop.ensures.1 none in cc) (desk_register (desk_of c.does-in-loop-2.new.self) HERE) c.turns_right-right.new.self k.taken c.turns_right-right.ensures.next,
    )
