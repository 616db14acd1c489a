-- Functions changed at one place, and sums of which one term changes.
use Rattle.std.proofs.Common.{◌≡◌, ◌≢◌, ℕ, zero, suc, ◌+◌, ◌<◌, Bool, true, false, refl, sym, arith, ⊎_elim, ◌⊎◌, inl, inr, Some, None}
use Rattle.std.proofs.lemmas.Bool.{eq-eqb, ne_eqb, cases_eq}
use Rattle.std.proofs.Math.Path.{fun_ext}
use Rattle.heap_state.specs.Functions.{put, sum_below}

pub put_at : {X : Type 0} (f : ℕ → X) (a : ℕ) (v : X) (x : ℕ) → x ≡ a → put f a v x ≡ v
unfolding put
put_at f a v x h = rw (eq-eqb x a h)

pub put_other : {X : Type 0} (f : ℕ → X) (a : ℕ) (v : X) (x : ℕ) → x ≢ a → put f a v x ≡ f x
unfolding put
put_other f a v x h = rw (ne_eqb x a h)

pub put_same : {X : Type 0} (f : ℕ → X) (a : ℕ) (v : X) → put f a v a ≡ v
put_same f a v = put_at f a v a refl

-- a function that is v at a and f elsewhere
pub put_is : {X : Type 0} (f g : ℕ → X) (a : ℕ) (v : X) → g a ≡ v → ((x : ℕ) → x ≢ a → g x ≡ f x) → g ≡ put f a v
put_is f g a v at other = fun_ext (λ x. ⊎_elim
    (λ (e : x ≡ a). rw (put_at f a v x e, e) at)
    (λ (n : x ≢ a). rw (put_other f a v x n) (other x n))
    (cases_eq x a))

-- what holds of each but k, and of v, holds after v is put at k
pub each_put : {X : Type 0} (P : ℕ → X → Type 0) (f : ℕ → X) (k : ℕ) (v : X) (j : ℕ) → (j ≢ k → P j (f j)) → (j ≡ k → P j v) → P j (put f k v j)
each_put P f k v j others own =
    ⊎_elim (λ (e : j ≡ k). rw (put_at f k v j e) (own e)) (λ (n : j ≢ k). rw (put_other f k v j n) (others n)) (cases_eq j k)

-- a projection that v shares with what stood there
pub proj_put : {X Y : Type 0} (g : X → Y) (f : ℕ → X) (k : ℕ) (v : X) (j : ℕ) → g v ≡ g (f k) → g (put f k v j) ≡ g (f j)
proj_put g f k v j e = each_put (λ j x. g x ≡ g (f j)) f k v j (λ n. refl) (λ i. rw i e)

-- what is put twice at a place is what was put there last
pub put_twice : {X : Type 0} (f : ℕ → X) (k : ℕ) (a b : X) → put (put f k a) k b ≡ put f k b
put_twice f k a b = fun_ext (λ j. ⊎_elim
    (λ (e : j ≡ k). rw (put_at (put f k a) k b j e, put_at f k b j e) refl)
    (λ (d : j ≢ k). rw (put_other (put f k a) k b j d, put_other f k b j d, put_other f k a j d) refl)
    (cases_eq j k))

-- both cases of a `put`, for `omega`
pub put_cases : (f : ℕ → ℕ) (a v x : ℕ) → ((x ≡ a) × (put f a v x ≡ v)) ⊎ ((x ≢ a) × (put f a v x ≡ f x))
put_cases f a v x = ⊎_elim (λ (e : x ≡ a). inl (e, put_at f a v x e)) (λ (n : x ≢ a). inr (n, put_other f a v x n)) (cases_eq x a)

pub team_put : {X : Type 0} (n : ℕ) (P : ℕ → X → Type 0) (f : ℕ → X) (k : ℕ) (v : X) → ((j : ℕ) → j < n → j ≢ k → P j (f j)) → P k v → (j : ℕ) → j < n → P j (put f k v j)
team_put n P f k v others own j l = each_put P f k v j (others j l) (λ e. rw e own)

pub sum_below-same : (n : ℕ) (f g : ℕ → ℕ) → ((x : ℕ) → x < n → f x ≡ g x) → sum_below n f ≡ sum_below n g
unfolding sum_below
sum_below-same zero f g h = refl
sum_below-same (suc n) f g h =
    let a : f n ≡ g n = h n (omega arith) in
    let b : sum_below n f ≡ sum_below n g = sum_below-same n f g (λ x l. h x (omega arith)) in
    omega arith

-- a sum of terms that are all 0
pub sum_below-none : (n : ℕ) (f : ℕ → ℕ) → ((x : ℕ) → x < n → f x ≡ 0) → sum_below n f ≡ 0
unfolding sum_below
sum_below-none zero f h = refl
sum_below-none (suc n) f h = let a : f n ≡ 0 = h n (omega arith) in let b : sum_below n f ≡ 0 = sum_below-none n f (λ x l. h x (omega arith)) in omega arith

-- one term changes
pub sum_below-change : (n : ℕ) (f g : ℕ → ℕ) (a : ℕ) → a < n → ((x : ℕ) → x < n → x ≢ a → f x ≡ g x) → sum_below n g + f a ≡ sum_below n f + g a
unfolding sum_below
sum_below-change zero f g a l h = absurd (omega arith)
sum_below-change (suc n) f g a l h =
    ⊎_elim
    (λ (e : a ≡ n).
    let b : sum_below n f ≡ sum_below n g = sum_below-same n f g (λ x k. h x (omega arith) (omega arith)) in
    rw e (omega arith))
    (λ (d : a ≢ n).
    let p : f n ≡ g n = h n (omega arith) (λ q. d (sym q)) in
    let b : sum_below n g + f a ≡ sum_below n f + g a = sum_below-change n f g a (omega arith) (λ x k. h x (omega arith)) in
    omega arith)
    (cases_eq a n)

pub none≢some : {X : Type 0} {x : X} {A : Type 0} → None ≡ Some x → A
none≢some e = absurd (cc)

pub some_same : {X : Type 0} {x y : X} → Some x ≡ Some y → x ≡ y
some_same e = cc

pub true_false : {b : Bool} {A : Type 0} → b ≡ false → b ≡ true → A
true_false p q = absurd (cc)
