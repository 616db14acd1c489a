-- Calls at the first element of a list, and at the rest.
use Rattle.std.specs.Prelude.{◌≡◌}
use denote.Ref.{MutBor}
use denote.Param.Members.{Shared}

module _ {F X R : Type 0} (g : Shared F (MutBor X × Unit {0}) (R × (MutBor X × Unit {0}))) (f : F) where
  -- f may be called with a `&mut` to x
  abbrev pub TakesAt : X → Type 0
  TakesAt x = (p : MutBor X) → p.now ≡ x → g.pre f (p, tt)

  -- such a call may give r, and leave y there
  pub record GivesAt (x : X) (r : R) (y : X) : Type 0 where
    pub argument : MutBor X
    pub argument_is : argument.now ≡ x
    pub after_call : MutBor X
    pub call : g.post f (argument, tt) (r, (after_call, tt))
    pub left : after_call.now ≡ y
