-- What a handle owns says the same to every thread.
use mir.Raw.{raw}
use base.Fraction.{full_share}
use base.Shift.{Keyless}
use denote.Memory.{lone}
use denote.RattleType.{RattleType}
use denote.RawPtr.{Ptr, block_ptr, null_ptr}
use denote.Param.Send.{IsSend, owning_send, part_keyless, sendable}
use Rattle.std.proofs.Crossing.{frees}
use Rattle.std.specs.declared.alloc.Global.{Global}
use Rattle.std.specs.declared.option.Option.{Option}
use Rattle.ael_c.specs.Holding.{held}
use Rattle.ael_c.specs.contracts.seat.Seat as seat
use Rattle.ael_c.proofs.seat.Seat.TheSendSync as sent
use Rattle.ael_c.specs.contracts.handle.Handle.{the_row, the_type}

held_keyless : (R : RattleType) → IsSend R → (a : Global) (p : Ptr) (v : Option R.Denot) → Keyless (held R a p v)
held_keyless R s a null_ptr v = λ e. tt
held_keyless R s a (block_ptr b o) v = λ x. ((λ e. tt), (part_keyless R s full_share x b o, frees.frees a (raw (lone R.mir)) (block_ptr b o)))

pub send : IsSend the_row
send = owning_send the_type (search sendable, (search sendable, tt)) (λ d. held_keyless seat.the_row sent.the_send d.alloc d.at d.value) (λ k x w. tt)
