-- The parts of the invariant where a record begins to stand in the new area.
use Rattle.std.proofs.Common.{◌≡◌, ◌≢◌, ℕ, ◌+◌, ◌-◌, ◌/◌, ◌%◌, ◌<◌, ◌≤◌, true, refl, sym, ap, ◌∙◌, arith, ⊎_elim, ◌⊎◌, inl, inr}
use Rattle.std.proofs.lemmas.Bool.{cases_eq, cases_lt}
use Rattle.plain_state.specs.declared.kind.Kind.{Kind}
use Rattle.plain_state.specs.declared.kind.Kind.TheVariants.{Mixed}
use Rattle.heap_words.specs.Word.{number_word}
use Rattle.heap_words.specs.Decoded.{HeaderWord, decode}
use Rattle.plain_state.specs.declared.value.Identity.{Identity}
use Rattle.space_map.specs.declared.page_word.PageWord.{PageWord}
use Rattle.space_map.specs.declared.page_word.PageWord.TheVariants.{Open}
use Rattle.heap_state.specs.Memory.Era.{Era, IsLaidOut}
use Rattle.heap_state.specs.Functions.{put, sum_below}
use Rattle.heap_state.specs.Invariant.Ghost.{Lands, IsField, Here, header_kind}
use Rattle.heap_state.specs.Invariant.Parts.Copies.{Copied, Once, Keepers, Room, owing}
use Rattle.heap_state.specs.Invariant.Parts.Crossing.{Crossing}
use Rattle.heap_state.specs.Invariant.Parts.Leading.{Opened, Landing, Older}
use Rattle.heap_state.specs.Invariant.Parts.OldSpace.{OldSpace}
use Rattle.heap_state.specs.Invariant.Parts.Pages.{Shut}
use Rattle.heap_state.specs.Invariant.Parts.Records.{Laid, Headed, NewArea, NewWritten, SpaceOf, RawWords, WalkComesTo, Counts}
use Rattle.heap_state.proofs.Puts.{put_at, put_other, put_cases, sum_below-same}
use Rattle.heap_state.proofs.Walks.WalkPlaces.{comes_to_more}
use Rattle.plain_state.specs.Layout.{is_field}
use Rattle.plain_state.specs.declared.sizes.TheConstants.{NUMBERS}
use Rattle.heap_laws.proofs.Frames.Values.{zero_clean, zero_lands}

-- where it is to stand: a place in the new area, free for its whole size, without a copy or a keeper
pub record NewPlace (E : Era) (front low : ℕ) (size copy keeper : ℕ → ℕ) (a z : ℕ) : Type 0 where
  pub lay : IsLaidOut E
  pub laid : Laid E front low size
  pub above : low ≤ a
  pub some : 0 < z
  pub ends : a + z ≤ E.start + E.span
  pub empty : (b : ℕ) → 0 < size b → (b + size b ≤ a) ⊎ (a + z ≤ b)
  pub blank : (copy a ≡ 0) × (keeper a ≡ 0)

module _ {E : Era} {front low : ℕ} {size copy keeper : ℕ → ℕ} {a z : ℕ} (cr : NewPlace E front low size copy keeper a z) where
  -- ---- the records before are others

  pub unused : size a ≡ 0
  unused = ⊎_elim
      (λ (y : 0 < size a). absurd (let e = cr.empty a y in omega (arith, e, y, cr.some)))
      (λ (y : size a ≤ 0). let q : size a ≡ 0 = omega arith in q)
      (cases_lt 0 (size a))

  pub not_new : (b : ℕ) → 0 < size b → b ≢ a
  not_new b st e = let q : size b ≡ size a = ap size e in let u = unused in omega (arith, u, q, st)

  pub was : (b : ℕ) → b ≢ a → 0 < put size a z b → 0 < size b
  was b d st = rw (put_other size a z b d) at st

  pub is : (b : ℕ) → 0 < size b → 0 < put size a z b
  is b st = rw (put_other size a z b (not_new b st)) st

  pub same_size : (b : ℕ) → b ≢ a → put size a z b ≡ size b
  same_size b d = put_other size a z b d

  pub copy_old : (b x : ℕ) → copy b ≡ x + 1 → b ≢ a
  copy_old b x y e = let q : copy b ≡ copy a = ap copy e in let n = cr.blank in omega (arith, q, y, n)

  pub keeper_old : (b x : ℕ) → keeper b ≡ x + 1 → b ≢ a
  keeper_old b x y e = let q : keeper b ≡ keeper a = ap keeper e in let n = cr.blank in omega (arith, q, y, n)

  pub old_other : (b : ℕ) → E.old_start ≤ b → b < E.old_start + E.old_span → b ≢ a
  old_other b l u e = omega (arith, e, l, u, cr.above, cr.laid.order, cr.ends, cr.some, cr.lay.apart)

  pub below_other : (b : ℕ) → b < front → b ≢ a
  below_other b l e = omega (arith, e, l, cr.above, cr.laid.order)

  -- ---- parts that read sizes alone

  pub laid_allocated : Laid E front low (put size a z)
  laid_allocated = record {
    aligned = cr.laid.aligned;
    order = cr.laid.order;
    apart = λ x y sx sy l. grind (arith, put_cases size a z x, put_cases size a z y, cr.laid.apart x y, cr.empty x, cr.empty y);
    lies = λ x sx. ⊎_elim
        (λ (y : x ≡ a). inr (inl (let l = cr.above in omega (arith, l, y), let q = put_at size a z x y in let n = cr.ends in omega (arith, q, y, n))))
        (λ (d : x ≢ a). rw (same_size x d) (cr.laid.lies x (was x d sx)))
        (cases_eq x a);
    start = ⊎_elim (λ y. inl y) (λ y. inr (is E.start y)) cr.laid.start;
    next = λ x p q sx. let d = below_other x q in rw (same_size x d) (⊎_elim (λ y. inl y) (λ y. inr (is (x + size x) y)) (cr.laid.next x p q (was x d sx)));
  }

  pub kept_allocated : (count : ℕ) → Keepers size keeper count → Keepers (put size a z) keeper count
  kept_allocated count p = record { kept = λ b k st y. p.kept b k (was b (keeper_old b k y) st) y }

  pub room_allocated : (traced owed : ℕ) → Room E traced front low owed size copy → Room E traced front low owed (put size a z) copy
  room_allocated traced owed p = record {
    needs = λ t.
        let e : sum_below E.old_span (λ x. owing size copy (E.old_start + x)) ≡ sum_below E.old_span (λ x. owing (put size a z) copy (E.old_start + x)) =
        sum_below-same E.old_span (λ x. owing size copy (E.old_start + x)) (λ x. owing (put size a z) copy (E.old_start + x)) (λ x l. rw (same_size (E.old_start + x) (old_other (E.old_start + x) (omega arith) (omega arith))) refl) in
        let q = p.needs t in omega (arith, e, q);
    fits = p.fits;
    small = p.small;
  }

  pub area_allocated : (epoch : ℕ) (heap heap' : ℕ → ℕ) (page : ℕ → PageWord) → ((x : ℕ) → x ≢ a → heap' x ≡ heap x) → ((x : ℕ) → a ≤ x → x < a + z → page (x / 64) ≡ Open epoch)
      → WalkComesTo size a → ((a + z) % 64 ≡ 0) ⊎ (heap' (a + z) ≡ 0) → NewArea low (E.start + E.span) epoch size heap page → NewArea low (E.start + E.span) epoch (put size a z) heap' page
  area_allocated epoch heap heap' page same opens after behind p = record {
    opened = λ b x st l u f e. ⊎_elim
        (λ (y : b ≡ a). opens x (omega (arith, y, f)) (let q = put_at size a z b y in omega (arith, q, y, e)))
        (λ (d : b ≢ a). p.opened b x (was b d st) l u f (rw (same_size b d) at e))
        (cases_eq b a);
    prior = λ b st l u n. ⊎_elim
        (λ (y : b ≡ a). ⊎_elim
        (λ (t : a % 64 ≡ 0). absurd (n (rw y t)))
        (λ (t : (e : ℕ) × (0 < size e) × (e + size e ≡ a)). (t.0, is t.0 t.1, rw (same_size t.0 (not_new t.0 t.1), y) t.2))
        after)
        (λ (d : b ≢ a). let t = p.prior b (was b d st) l u n in (t.0, is t.0 t.1, rw (same_size t.0 (not_new t.0 t.1)) t.2))
        (cases_eq b a);
    blank = λ x l u w o none.
        let d : x ≢ a = (λ e. let q = none a (let t = put_at size a z a refl in let n = cr.some in omega arith) in let t = put_at size a z a refl in let n = cr.some in omega (arith, q, e, t, n)) in
        let before : WalkComesTo size x → heap' x ≡ 0 = λ y. rw (same x d) (p.blank x l u y o (λ b st. let q = none b (is b st) in rw (same_size b (not_new b st)) at q)) in
        ⊎_elim before (λ (e : x ≡ a + z). ⊎_elim (λ (y : (a + z) % 64 ≡ 0). before (inl (omega arith))) (λ (y : heap' (a + z) ≡ 0). ap heap' e ∙ y) behind) (comes_to_more size a z x w);
  }

  pub old_space_allocated : (traced old_front old_low : ℕ) (heap : ℕ → ℕ) (page : ℕ → PageWord) → OldSpace E traced old_front old_low size heap page → OldSpace E traced old_front old_low (put size a z) heap page
  old_space_allocated traced old_front old_low heap page p = record { walks = λ t epoch e. space epoch (p.walks t epoch e) }
    where
      -- the new record ends before the old space, or begins behind it
      comes : (x : ℕ) → E.old_start ≤ x → x < E.old_start + E.old_span → WalkComesTo (put size a z) x → WalkComesTo size x
      comes x l u w = ⊎_elim (λ y. y) (λ (e : x ≡ a + z). inl (omega (arith, e, l, u, cr.above, cr.laid.order, cr.ends, cr.lay.apart, cr.lay.old_start))) (comes_to_more size a z x w)

      space : (epoch : ℕ) → SpaceOf E.old_start old_front old_low (E.old_start + E.old_span) epoch size heap page → SpaceOf E.old_start old_front old_low (E.old_start + E.old_span) epoch (put size a z) heap page
      space epoch s = record {
        lies = λ b st l u. let d = old_other b l u in rw (same_size b d) (s.lies b (was b d st) l u);
        order = s.order;
        aligned = s.aligned;
        first = ⊎_elim (λ y. inl y) (λ y. inr (is E.old_start y)) s.first;
        next = λ b l u st. let d = old_other b l (let o = s.order in omega (arith, u, o)) in rw (same_size b d) (⊎_elim (λ y. inl y) (λ y. inr (is (b + size b) y)) (s.next b l u (was b d st)));
        new = record {
          opened = λ b x st l u f e. let d = old_other b (let o = s.order in omega (arith, l, o)) u in s.new.opened b x (was b d st) l u f (rw (same_size b d) at e);
          prior = λ b st l u n. let d = old_other b (let o = s.order in omega (arith, l, o)) u in let t = s.new.prior b (was b d st) l u n in (t.0, is t.0 t.1, rw (same_size t.0 (not_new t.0 t.1)) t.2);
          blank = λ x l u w o none. s.new.blank x l u (comes x (omega (arith, l, s.order)) u w) o (λ b st. let q = none b (is b st) in rw (same_size b (not_new b st)) at q);
        };
      }

  -- ---- parts that read who writes

  module _ (writer : ℕ → ℕ) where
    abbrev writer' : ℕ → ℕ
    writer' = put writer a 0

    pub written_old : (b : ℕ) → 0 < writer' b → b ≢ a
    written_old b w e = let q = put_at writer a 0 b e in omega (arith, q, w)

    pub same_writer : (b : ℕ) → b ≢ a → writer' b ≡ writer b
    same_writer b d = put_other writer a 0 b d

    pub new_written_allocated : NewWritten E low size writer → NewWritten E low (put size a z) writer'
    new_written_allocated p = record { written = λ b st l u. ⊎_elim (λ (e : b ≡ a). put_at writer a 0 b e) (λ (d : b ≢ a). rw (same_writer b d) (p.written b (was b d st) l u)) (cases_eq b a) }

    pub shut_allocated : (page : ℕ → PageWord) → Shut E front low size writer page → Shut E front low (put size a z) writer' page
    shut_allocated page p = record {
      free = p.free;
      held = λ b x st w l u. let d = written_old b w in p.held b x (was b d st) (rw (same_writer b d) at w) l (rw (same_size b d) at u);
      by = λ b x k st w l u e. let d = written_old b w in rw (same_writer b d) (p.by b x k (was b d st) (rw (same_writer b d) at w) l (rw (same_size b d) at u) e);
    }

    pub crossing_allocated : (cross : ℕ → ℕ) → Crossing E front size writer cross → Crossing E front (put size a z) writer' cross
    crossing_allocated cross p = record { crossing = λ r b s f st l u w. let d : b ≢ a = (λ e. let n = cr.above in let o = cr.laid.order in omega (arith, e, l, f, n, o)) in p.crossing r b s f (was b d st) l (rw (same_size b d) at u) (rw (same_writer b d) at w) }

    pub lands_on : (w : ℕ) → Lands size writer w → Lands (put size a z) writer' w
    unfolding Lands
    lands_on w q b e = let u = q b e in (is b u.0, rw (same_writer b (not_new b u.0)) u.1)

    -- ---- parts that read kinds

    module _ (kind : ℕ → Kind) (c : Kind) where
      abbrev kind' : ℕ → Kind
      kind' = put kind a c

      pub same_kind : (b : ℕ) → b ≢ a → kind' b ≡ kind b
      same_kind b d = put_other kind a c b d

      pub field_was : (b j : ℕ) → b ≢ a → IsField (put size a z) writer' kind' b j → IsField size writer kind b j
      field_was b j d f = record { stands = was b d f.stands; written = rw (same_writer b d) at f.written; field = rw (same_kind b d) at f.field; first = f.first; last = rw (same_size b d) at f.last }

      pub field_on : (b j : ℕ) → IsField size writer kind b j → IsField (put size a z) writer' kind' b j
      field_on b j f = let d = not_new b f.stands in record { stands = is b f.stands; written = rw (same_writer b d) f.written; field = rw (same_kind b d) f.field; first = f.first; last = rw (same_size b d) f.last }

      pub here_on : (x : ℕ) → Here E size writer kind x → Here E (put size a z) writer' kind' x
      unfolding Here
      here_on x (inr b) = inr b
      here_on x (inl u) = inl (record { a = u.a; i = u.i; field = field_on u.a u.i u.field; inside = u.inside; at = u.at })

      module _ (heap : ℕ → ℕ) (zeros : (j : ℕ) → 0 < j → is_field c j ≡ true → j < z → heap (a + j) ≡ 0) where
        -- a field or a board word after is one before, or holds 0
        pub here_was : (x : ℕ) → Here E (put size a z) writer' kind' x → Here E size writer kind x ⊎ (heap x ≡ 0)
        unfolding Here
        here_was x (inr b) = inl (inr b)
        here_was x (inl u) = let f : IsField (put size a z) writer' kind' u.a u.i = u.field in ⊎_elim
            (λ (e : u.a ≡ a). inr (let q : x ≡ a + u.i = omega (arith, e, u.at) in rw q (zeros u.i f.first (rw (put_at kind a c u.a e) at f.field) (let s = put_at size a z u.a e in omega (arith, s, f.last)))))
            (λ (d : u.a ≢ a). inl (inl (record { a = u.a; i = u.i; field = field_was u.a u.i d f; inside = u.inside; at = u.at })))
            (cases_eq u.a a)

        pub opened_allocated : (page : ℕ → PageWord) → Opened E size writer kind heap page → Opened E (put size a z) writer' kind' heap page
        opened_allocated page p = record { opened = λ x u o. ⊎_elim (λ y. p.opened x y o) (λ y. zero_clean E (heap x) y) (here_was x u) }

        pub landing_allocated : Landing E size writer kind heap → Landing E (put size a z) writer' kind' heap
        landing_allocated p = record { lands = λ x u. ⊎_elim (λ y. lands_on (heap x) (p.lands x y)) (λ y. zero_lands (put size a z) writer' (heap x) y) (here_was x u) }

        pub older_allocated : Older E size writer kind heap → Older E (put size a z) writer' kind' heap
        older_allocated p = record {
          older = λ b j x f l u e. let q = p.older b j x (field_was b j (old_other b l u) f) l u e in (is x q.0, q.1, q.2);
          written = λ b st l u. let d = old_other b l u in rw (same_writer b d) (p.written b (was b d st) l u);
        }

      -- the words behind its header are small
      pub raw_allocated : (heap : ℕ → ℕ) → ((j : ℕ) → 0 < j → j < z → heap (a + j) < NUMBERS) → RawWords size writer kind heap → RawWords (put size a z) writer' kind' heap
      raw_allocated heap small p = record {
        raw = λ b j st w f l n. ⊎_elim
            (λ (e : b ≡ a). rw e (small j f (let s = put_at size a z b e in omega (arith, s, l))))
            (λ (d : b ≢ a). p.raw b j (was b d st) (rw (same_writer b d) at w) f (rw (same_size b d) at l) (rw (same_kind b d) at n))
            (cases_eq b a);
      }

      -- where the new record is mixed, its count stands, and it has room for it
      pub counts_allocated : (heap : ℕ → ℕ) → ((count : ℕ) → c ≡ Mixed count → (heap (a + 1) ≡ number_word count) × (count + 2 ≤ z)) → Counts size writer kind heap → Counts (put size a z) writer' kind' heap
      counts_allocated heap new p = record {
        counts = λ b count st w e. ⊎_elim
            (λ (q : b ≡ a). rw (put_at size a z b q, q) (new count (sym (put_at kind a c b q) ∙ e)))
            (λ (d : b ≢ a). rw (same_size b d) (p.counts b count (was b d st) (rw (same_writer b d) at w) (rw (same_kind b d) at e)))
            (cases_eq b a);
      }

      -- ---- parts that read identities

      module _ (identity : ℕ → Identity) (i : Identity) where
        abbrev identity' : ℕ → Identity
        identity' = put identity a i

        pub same_identity : (b : ℕ) → b ≢ a → identity' b ≡ identity b
        same_identity b d = put_other identity a i b d

        pub headed_allocated : (heap : ℕ → ℕ) → decode (heap a) ≡ HeaderWord (header_kind c) (z - 1) i.serial i.mutator → Headed size writer copy keeper kind identity heap → Headed (put size a z) writer' copy keeper kind' identity' heap
        headed_allocated heap head p = record {
          own = λ b st w y u. ⊎_elim
              (λ (e : b ≡ a). rw (put_at size a z b e, put_at kind a c b e, put_at identity a i b e, e) head)
              (λ (d : b ≢ a). rw (same_size b d, same_kind b d, same_identity b d) (p.own b (was b d st) (rw (same_writer b d) at w) y u))
              (cases_eq b a);
          kept = λ b k st y. let d = keeper_old b k y in rw (same_size b d) (p.kept b k (was b d st) y);
          gone = λ b x st y u. let d = copy_old b x y in rw (same_size b d) (p.gone b x (was b d st) y u);
        }

        pub copied_allocated : (kept : ℕ → ℕ) → Copied E front size writer copy keeper kind identity kept → Copied E front (put size a z) writer' copy keeper kind' identity' kept
        copied_allocated kept p = record {
          target = λ b x st y.
              let d = copy_old b x y in
              let t = p.target b x (was b d st) y in
              let u = below_other x t.3 in
              rw (same_size b d, same_kind b d, same_identity b d, same_size x u, same_kind x u, same_identity x u, same_writer x u) t;
          blank = λ b y. let d : b ≢ a = (λ e. let q = put_at size a z b e in let n = cr.some in omega (arith, q, y, n)) in p.blank b (rw (same_size b d) at y);
          origin = λ b st w. let d = written_old b w in let o = p.origin b (was b d st) (rw (same_writer b d) at w) in (o.0, is o.0 o.1, o.2);
          keeper_of = λ b k st y. p.keeper_of b k (was b (keeper_old b k y) st) y;
        }

        pub once_allocated : ((b : ℕ) → 0 < size b → identity b ≢ i) → Once size copy identity → Once (put size a z) copy identity'
        once_allocated new p = record {
          once = λ b d sb sd e. ⊎_elim
              (λ (x : b ≡ a). ⊎_elim
              (λ (y : d ≡ a). inl (x ∙ sym y))
              (λ (y : d ≢ a). absurd (new d (was d y sd) (sym (rw (put_at identity a i b x, same_identity d y) at e))))
              (cases_eq d a))
              (λ (x : b ≢ a). ⊎_elim
              (λ (y : d ≡ a). absurd (new b (was b x sb) (rw (same_identity b x, put_at identity a i d y) at e)))
              (λ (y : d ≢ a). p.once b d (was b x sb) (was d y sd) (rw (same_identity b x, same_identity d y) at e))
              (cases_eq d a))
              (cases_eq b a);
        }
