use Rattle.std.proofs.Common.{arith}
use Rattle.concordance.proofs.Desks.MadeEntry.{entry_leads, latest_leads, made_entry, takes_latest, takes_letters, takes_line}
use Rattle.concordance.proofs.FoundFull.{full_now, passed_on}
use Rattle.concordance.proofs.clerk.Clerk.make_entry.Goals as goal

pub does-requires-clause-can : goal.does-requires-clause-can
does-requires-clause-can g c = takes_letters c.args.self.now c.makes.new.self c.in_ok-makes.ensures.desk

pub does-requires-2-clause-can : goal.does-requires-2-clause-can
does-requires-2-clause-can g c = takes_line c.args.self.now c.makes.new.self c.in_ok-makes.ensures.desk c.does.new.self c.does.ensures.desk

pub does-requires-3-clause-can : goal.does-requires-3-clause-can
does-requires-3-clause-can g c = takes_latest c.args.self.now c.makes.new.self c.in_ok-makes.ensures.desk c.does.new.self c.does.ensures.desk c.does-2.new.self c.does-2.ensures.desk

pub returns-clause-records : goal.returns-clause-records
returns-clause-records g c = made_entry c.args.self.now c.makes.new.self c.in_ok-makes.ensures.desk c.does.new.self c.does.ensures.desk c.does-2.new.self c.does-2.ensures.desk c.does-3.new.self c.does-3.ensures.desk c.does-4.new.self c.does-4.ensures.desk

pub returns-clause-entry : goal.returns-clause-entry
returns-clause-entry g c = entry_leads c.args.self.now c.makes.new.self c.in_ok-makes.ensures.desk c.does.new.self c.does.ensures.desk c.does-2.new.self c.does-2.ensures.desk c.does-3.new.self c.does-3.ensures.desk c.does-4.new.self c.does-4.ensures.desk

pub returns-clause-latest : goal.returns-clause-latest
returns-clause-latest g c = latest_leads c.args.self.now c.makes.new.self c.in_ok-makes.ensures.desk c.does.new.self c.does.ensures.desk c.does-2.new.self c.does-2.ensures.desk c.does-3.new.self c.does-3.ensures.desk c.does-4.new.self c.does-4.ensures.desk

pub returns-in_err-makes-clause-full : goal.returns-in_err-makes-clause-full
returns-in_err-makes-clause-full g c = let e = c.in_err-makes.ensures in passed_on _ _ _ c.from_residual.ensures.1 (full_now _ _ _ _ _ c.requires.lone e.shows e.full (omega arith))
