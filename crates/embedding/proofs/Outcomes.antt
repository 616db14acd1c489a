-- What is said of an outcome that is Ok.
use Rattle.std.proofs.Common.{◌≡◌, Result, Ok, Err, subst, sym}
use Rattle.std.specs.Prelude.{OnErr, OnOk}

module _ {T E : Type 0} (r : Result T E) where
  pub on_ok_by : (P : Type 0) (x : T) → r ≡ Ok x → OnOk r P → P
  on_ok_by P x is p = subst (λ (o : Result T E). OnOk o P) is p

  pub on_ok_of_err : (P : Type 0) (e : E) → r ≡ Err e → OnOk r P
  on_ok_of_err P e is = subst (λ (o : Result T E). OnOk o P) (sym is) tt

  -- by one fact, and by two
  pub on_ok_map : (P Q : Type 0) → OnOk r P → (P → Q) → OnOk r Q
  on_ok_map P Q p f = by_cases r p
    where
      by_cases : (o : Result T E) → OnOk o P → OnOk o Q
      by_cases (Ok x) p = f p
      by_cases (Err e) p = tt

  pub on_ok_both : (P Q S : Type 0) → OnOk r P → OnOk r Q → (P → Q → S) → OnOk r S
  on_ok_both P Q S p q f = by_cases r p q
    where
      by_cases : (o : Result T E) → OnOk o P → OnOk o Q → OnOk o S
      by_cases (Ok x) p q = f p q
      by_cases (Err e) p q = tt

  pub on_err : (P : Type 0) → P → OnErr r P
  on_err P p = by_cases r
    where
      by_cases : (o : Result T E) → OnErr o P
      by_cases (Ok x) = tt
      by_cases (Err e) = p
