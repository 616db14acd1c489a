-- Each stopped mutator forwards its registers after the flip.
use Rattle.std.specs.Prelude.{◌≡◌, ℕ, ◌+◌, ◌<◌, true, Some, None}
use Rattle.heap_words.specs.Decoded.{PointerWord, decode}
use Rattle.heap_state.specs.Memory.Era.{Era, Memory}
use Rattle.heap_state.specs.Functions.{put}
use Rattle.heap_state.specs.Invariant.Ghost.{Ghost, Leads}
use Rattle.heap_state.specs.Known.{Known, Team, Register, Quest, is_late}
use Rattle.heap_laws.specs.Steps.{Ready, Steps}

-- Worker k is late, and has not forwarded all registers.
pub record HasRegister (E : Era) (team : Team) (k : ℕ) : Type 0 where
  pub late : is_late E.epoch (team.worker k) ≡ true
  pub left : (team.worker k).done < 8

-- a register that leads nowhere, or at least not into the old space, is passed
abbrev pub past_register : Known → Known
past_register w = record w { done = w.done + 1 }

abbrev pub PassingRegisterKeeps : Type 0
PassingRegisterKeeps = (E : Era) (m : Memory) (team : Team) (g : Ghost) (k : ℕ) → Ready E m team g k → HasRegister E team k
    → (team.worker k).quest ≡ None → ¬ (Leads E ((team.worker k).registers (team.worker k).done))
    → Steps E m team g k None (past_register (team.worker k)) g

-- for one that is a pointer, and so leads into the old space, the worker asks for the copy
abbrev pub asking_for : Known → ℕ → Known
asking_for w a = record w { quest = Some (record { old = a; origin = Register w.done; found = None }) }

abbrev pub AskingForRegisterKeeps : Type 0
AskingForRegisterKeeps = (E : Era) (m : Memory) (team : Team) (g : Ghost) (k a : ℕ) → Ready E m team g k → HasRegister E team k
    → (team.worker k).quest ≡ None → decode ((team.worker k).registers (team.worker k).done) ≡ PointerWord a
    → Steps E m team g k None (asking_for (team.worker k) a) g

-- worker k has found the copy that its register asked for
pub record HasFoundCopy (E : Era) (team : Team) (k : ℕ) (q : Quest) (b : ℕ) : Type 0 where
  pub register : HasRegister E team k
  pub quest : (team.worker k).quest ≡ Some q
  pub origin : q.origin ≡ Register (team.worker k).done
  pub found : q.found ≡ Some b

-- the register gets a pointer to the copy, once this is no cell that is still to be linked
abbrev pub forwarded : Known → ℕ → Known
forwarded w v = record w { registers = put w.registers w.done v; done = w.done + 1; quest = None }

abbrev pub ForwardingRegisterKeeps : Type 0
ForwardingRegisterKeeps = (E : Era) (m : Memory) (team : Team) (g : Ghost) (k : ℕ) (q : Quest) (b v : ℕ) → Ready E m team g k → HasFoundCopy E team k q b
    → (team.worker k).linking ≡ None → decode v ≡ PointerWord b → Steps E m team g k None (forwarded (team.worker k) v) g
