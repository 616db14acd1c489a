use Rattle.std.proofs.Common.{◌≡◌, ℕ, [], ◌∷◌, ◌++◌, refl, ap, ◌∙◌, arith}
use Rattle.plain_state.specs.declared.kind.Kind.TheVariants.{Fields}
use Rattle.plain_state.specs.declared.value.Value.TheVariants.{Number}
use Rattle.plain_state.specs.Writing.{with_value, zeros}
use Rattle.concordance.specs.Desk.{desk_register, desk_with_record, desk_with_value}
use Rattle.ael_threads.specs.Seats.{Seated}
use Rattle.concordance.specs.Lone.{desk_of}
use Rattle.concordance.specs.declared.registers.TheConstants.{LINE, NUMBER}
use Rattle.concordance.proofs.Desks.FreshRecord.{IsFresh, fresh_loads, fresh_made, fresh_registers, fresh_stores, fresh_takes}
use Rattle.concordance.proofs.Desks.Instructions.{Loads, Makes, loads, makes}
use Rattle.concordance.proofs.FoundFull.{full_now, passed_on}
use Rattle.concordance.proofs.Shown.{all_registers}
use Rattle.concordance.proofs.clerk.Clerk.make_line.Goals as goal

module _ (a b c : Seated) (line : ℕ) (made : desk_of b ≡ desk_with_record (desk_of a) Fields LINE 2) (set : desk_of c ≡ desk_with_value (desk_of b) NUMBER (Number line)) where
  makes_it : Makes (desk_of a) Fields LINE 2 (desk_of b)
  makes_it = makes (desk_of a) Fields LINE 2 (desk_of b) (all_registers a) (omega arith) made

  loads_it : Loads (desk_of b) NUMBER (Number line) (desk_of c)
  loads_it = loads (desk_of b) NUMBER (Number line) (desk_of c) (all_registers b) (omega arith) set

  fresh : IsFresh (desk_of a).records (zeros Fields 2) LINE (desk_of c)
  fresh = fresh_loads (desk_of a).records (zeros Fields 2) LINE (desk_of b) (fresh_made (desk_of a) Fields LINE 2 (desk_of b) makes_it) NUMBER (Number line) (desk_of c) (λ e. absurd (omega arith)) loads_it

pub does-requires-2-clause-can : goal.does-requires-2-clause-can
does-requires-2-clause-can g c =
    fresh_takes _ (zeros Fields 2) LINE _ (fresh c.args.self.now c.makes.new.self c.does.new.self c.from.result c.in_ok-makes.ensures.desk c.does.ensures.desk) 0 (desk_register (desk_of c.does.new.self) NUMBER) (omega arith) refl

pub returns-clause-records : goal.returns-clause-records
returns-clause-records g c =
    let f = fresh c.args.self.now c.makes.new.self c.does.new.self c.from.result c.in_ok-makes.ensures.desk c.does.ensures.desk in
    let n : desk_register (desk_of c.does.new.self) NUMBER ≡ Number c.from.result = (loads_it c.args.self.now c.makes.new.self c.does.new.self c.from.result c.in_ok-makes.ensures.desk c.does.ensures.desk).taken in
    (fresh_stores _ (zeros Fields 2) LINE _ f 0 (desk_register (desk_of c.does.new.self) NUMBER) _ c.does-2.ensures.desk).records
    ∙ ap (λ v. (desk_of c.args.self.now).records ++ with_value (zeros Fields 2) 0 v ∷ []) (n ∙ ap Number c.from.ensures)

pub returns-clause-line : goal.returns-clause-line
returns-clause-line g c =
    let f = fresh c.args.self.now c.makes.new.self c.does.new.self c.from.result c.in_ok-makes.ensures.desk c.does.ensures.desk in
    let m = makes_it c.args.self.now c.makes.new.self c.does.new.self c.from.result c.in_ok-makes.ensures.desk c.does.ensures.desk in
    let l = loads_it c.args.self.now c.makes.new.self c.does.new.self c.from.result c.in_ok-makes.ensures.desk c.does.ensures.desk in
    fresh_registers _ (zeros Fields 2) LINE _ f 0 _ _ c.does-2.ensures.desk LINE ∙ (l.others LINE (λ e. absurd (omega arith)) ∙ m.taken)

pub returns-in_err-makes-clause-full : goal.returns-in_err-makes-clause-full
returns-in_err-makes-clause-full g c = let e = c.in_err-makes.ensures in passed_on _ _ _ c.from_residual.ensures.1 (full_now _ _ _ _ _ c.requires.lone e.shows e.full (omega arith))
