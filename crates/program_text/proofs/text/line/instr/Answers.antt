use Rattle.std.proofs.Common.{arith, rules}
use Rattle.mutator_asm.specs.Instr.{instr_of}
use Rattle.program_text.proofs.Tokens.Names.{two_letters, three_letters, four_letters, made_of}
use Rattle.program_text.proofs.text.line.instr.Goals as goal

pub returns-in-li : goal.returns-in-li
unfolding instr_of
returns-in-li c = rw (two_letters c.args.name.now 108 105 (search arith)) (made_of _ _ c.register_number.ensures (λ o x p. search rules))

pub returns-in-mov : goal.returns-in-mov
unfolding instr_of
returns-in-mov c = rw (three_letters c.args.name.now 109 111 118 (search arith)) (made_of _ _ c.two_registers.ensures (λ o x p. search rules))

pub returns-in-add : goal.returns-in-add
unfolding instr_of
returns-in-add c = rw (three_letters c.args.name.now 97 100 100 (search arith)) (made_of _ _ c.three_registers-in-add.ensures (λ o x p. search rules))

pub returns-in-sub : goal.returns-in-sub
unfolding instr_of
returns-in-sub c = rw (three_letters c.args.name.now 115 117 98 (search arith)) (made_of _ _ c.three_registers-in-sub.ensures (λ o x p. search rules))

pub returns-in-mul : goal.returns-in-mul
unfolding instr_of
returns-in-mul c = rw (three_letters c.args.name.now 109 117 108 (search arith)) (made_of _ _ c.three_registers-in-mul.ensures (λ o x p. search rules))

pub returns-in-div : goal.returns-in-div
unfolding instr_of
returns-in-div c = rw (three_letters c.args.name.now 100 105 118 (search arith)) (made_of _ _ c.three_registers-in-div.ensures (λ o x p. search rules))

pub returns-in-rem : goal.returns-in-rem
unfolding instr_of
returns-in-rem c = rw (three_letters c.args.name.now 114 101 109 (search arith)) (made_of _ _ c.three_registers-in-rem.ensures (λ o x p. search rules))

pub returns-in-lt : goal.returns-in-lt
unfolding instr_of
returns-in-lt c = rw (two_letters c.args.name.now 108 116 (search arith)) (made_of _ _ c.three_registers.ensures (λ o x p. search rules))

pub returns-in-eq : goal.returns-in-eq
unfolding instr_of
returns-in-eq c = rw (two_letters c.args.name.now 101 113 (search arith)) (made_of _ _ c.three_registers-in-eq.ensures (λ o x p. search rules))

pub returns-in-jr : goal.returns-in-jr
unfolding instr_of
returns-in-jr c = rw (two_letters c.args.name.now 106 114 (search arith)) (made_of _ _ c.one_register.ensures (λ o x p. search rules))

pub returns-in-new : goal.returns-in-new
unfolding instr_of
returns-in-new c = rw (three_letters c.args.name.now 110 101 119 (search arith)) (made_of _ _ c.register_operand-in-new.ensures (λ o x p. search rules))

pub returns-in-raw : goal.returns-in-raw
unfolding instr_of
returns-in-raw c = rw (three_letters c.args.name.now 114 97 119 (search arith)) (made_of _ _ c.register_operand.ensures (λ o x p. search rules))

pub returns-in-mix : goal.returns-in-mix
unfolding instr_of
returns-in-mix c = rw (three_letters c.args.name.now 109 105 120 (search arith)) (made_of _ _ c.register_two_operands.ensures (λ o x p. search rules))

pub returns-in-ld : goal.returns-in-ld
unfolding instr_of
returns-in-ld c = rw (two_letters c.args.name.now 108 100 (search arith)) (made_of _ _ c.two_registers_operand.ensures (λ o x p. search rules))

pub returns-in-st : goal.returns-in-st
unfolding instr_of
returns-in-st c = rw (two_letters c.args.name.now 115 116 (search arith)) (made_of _ _ c.register_operand_register.ensures (λ o x p. search rules))

pub returns-in-cas : goal.returns-in-cas
unfolding instr_of
returns-in-cas c = rw (three_letters c.args.name.now 99 97 115 (search arith)) (made_of _ _ c.registers_operand_registers.ensures (λ o x p. search rules))

pub returns-in-len : goal.returns-in-len
unfolding instr_of
returns-in-len c = rw (three_letters c.args.name.now 108 101 110 (search arith)) (made_of _ _ c.two_registers-in-len.ensures (λ o x p. search rules))

pub returns-in-isp : goal.returns-in-isp
unfolding instr_of
returns-in-isp c = rw (three_letters c.args.name.now 105 115 112 (search arith)) (made_of _ _ c.two_registers-in-isp.ensures (λ o x p. search rules))

pub returns-in-get : goal.returns-in-get
unfolding instr_of
returns-in-get c = rw (three_letters c.args.name.now 103 101 116 (search arith)) (made_of _ _ c.register_operand-in-get.ensures (λ o x p. search rules))

pub returns-in-put : goal.returns-in-put
unfolding instr_of
returns-in-put c = rw (three_letters c.args.name.now 112 117 116 (search arith)) (made_of _ _ c.operand_register.ensures (λ o x p. search rules))

pub returns-in-swap : goal.returns-in-swap
unfolding instr_of
returns-in-swap c = rw (four_letters c.args.name.now 115 119 97 112 (search arith)) (made_of _ _ c.register_operand-in-swap.ensures (λ o x p. search rules))

pub returns-in-out : goal.returns-in-out
unfolding instr_of
returns-in-out c = rw (three_letters c.args.name.now 111 117 116 (search arith)) (made_of _ _ c.one_register-in-out.ensures (λ o x p. search rules))

pub returns-in-snap : goal.returns-in-snap
unfolding instr_of
returns-in-snap c = rw (four_letters c.args.name.now 115 110 97 112 (search arith)) c.nothing.ensures

pub returns-in-halt : goal.returns-in-halt
unfolding instr_of
returns-in-halt c = rw (four_letters c.args.name.now 104 97 108 116 (search arith)) c.nothing-in-halt.ensures
