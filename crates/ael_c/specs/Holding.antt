-- What a handle owns.
use Rattle.std.specs.Prelude.{◌≡◌}
use base.Fml.{Fml, ftrue, fsep, fex}
use denote.RattleType.{RattleType}
use denote.RawPtr.{Ptr, block_ptr, null_ptr}
use Rattle.std.specs.declared.option.Option.{Option}
use Rattle.std.specs.declared.option.Option.TheVariants.{None, Some}
use Rattle.std.specs.declared.alloc.Global.{Global}
use Rattle.std.specs.contracts.impls.GlobalAllocator.TheImpl.{ghosts}
use Rattle.std.specs.Box.Ownership.{box_owns}

module _ (R : RattleType) (a : Global) where
  -- a box of the value
  abbrev pub boxed : Ptr → R.Denot → Fml
  boxed = box_owns (ghosts.dealloc_token a) R

  -- nothing at null, else a box of the value
  abbrev pub held : Ptr → Option R.Denot → Fml
  held null_ptr v = fex (v ≡ None) (λ _. ftrue)
  held (block_ptr b o) v = fex R.Denot (λ x. fsep (fex (v ≡ Some x) (λ _. ftrue)) (boxed (block_ptr b o) x))
