use Rattle.std.proofs.Common.{rules}
use Rattle.plain_machine.proofs.effects.perform.Goals as goal

pub returns-in_err-exchange-in-Compares-clause-tried : goal.returns-in_err-exchange-in-Compares-clause-tried
returns-in_err-exchange-in-Compares-clause-tried c =
    let h = c.in_err-exchange-in-Compares.ensures.executed c.args.m in rw c.in-Compares.is (search (rules, h))

pub returns-in_ok-exchange-in-Compares-clause-tried : goal.returns-in_ok-exchange-in-Compares-clause-tried
returns-in_ok-exchange-in-Compares-clause-tried c = rw c.in-Compares.is (c.in_ok-exchange-in-Compares.ensures.executed c.args.m)
