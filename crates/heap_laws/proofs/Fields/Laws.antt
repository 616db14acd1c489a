-- A mutator's store and its going on are one step.
use Rattle.std.proofs.lemmas.Bool.{cases_lt}
use Rattle.std.proofs.Common.{◌≡◌, ℕ, ◌+◌, ◌-◌, ◌<◌, ◌≤◌, ◌*◌, ◌⊎◌, inl, inr, true, Some, None, refl, sym, ◌∙◌, arith}
use Rattle.plain_state.specs.Layout.{word_of_value}
use Rattle.plain_state.specs.State as plain
use Rattle.plain_state.specs.declared.end.End.TheVariants.{HeapFull}
use Rattle.space_map.specs.PageWord.{age_of}
use Rattle.heap_state.specs.Cycles.Cycle.{Cycle}
use Rattle.heap_state.specs.Memory.Era.{Era, Memory}
use Rattle.heap_state.specs.Invariant.Ghost.{Ghost}
use Rattle.heap_state.specs.Invariant.Inductive.{Invariant}
use Rattle.heap_state.specs.Meaning.Values.{Accounts, Shown}
use Rattle.heap_state.specs.Known.{Known, Team, Account, is_running}
use Rattle.heap_state.proofs.Puts.{none≢some}
use Rattle.heap_state.proofs.Represents.Snapped.{snaps_show}
use Rattle.heap_laws.specs.Fields.Held.{MutatorGoesOn, with_mutator, GoesOnSo}
use Rattle.heap_laws.specs.Steps.{with_word, with_worker, Makes, NoRow, InWord}
use Rattle.heap_laws.specs.Fields.Stores.{IsAs, MutatorsStep, MutatorsStore, MutatorsStoreOnBoard, MutatorsSnap, MutatorsEnd, MutatorsFindNoRoom, with_end, MutatorsLearn}
use Rattle.heap_laws.proofs.Cells.Kept.{words_no_targets}
use Rattle.heap_laws.proofs.Fields.Cycle.{stores_keep_cycle, board_stores_keep_cycle}
use Rattle.heap_laws.proofs.Fields.Shown.{stores_show, board_stores_show}
use Rattle.heap_laws.proofs.Fields.Stored.{words_are_stored, board_is_stored}
use Rattle.plain_state.proofs.Stored.{stored_serial}
use Rattle.heap_laws.proofs.Fields.RunningMutators.{mutators_go_on, going_on_shows, going_on_keeps_cycle}
use Rattle.heap_laws.proofs.Steps.Learning.{shown_put}
use Rattle.space_map.specs.declared.spaces.TheConstants.{PAGE_WORDS}

-- a step that stores nothing, of a team of which a part was changed before
pub goes_as : (E : Era) (m : Memory) (team : Team) (g : Ghost) (p : plain.Plain) (k : ℕ) (next : Known) (q : plain.Mutator) → Invariant E m team g → k < team.count
    → is_running (team.worker k).post ≡ true → Shown E m team g p → MutatorGoesOn E m g (team.worker k) next → IsAs g p.heap k next q
    → Makes E m m team (with_worker team k next) g g (with_mutator p k q)
goes_as E m team g p k next q inv member runs s goes same = record {
  invariant = mutators_go_on E m team g k next inv member runs goes;
  shown = going_on_shows E m team g p k next q s same.account same.registers;
  cycle = λ o cy. going_on_keeps_cycle E m team g o k next inv member runs goes cy;
  ages = λ page. omega arith;
}

pub mutators_step : MutatorsStep
mutators_step E m team g p k next q ready runs s goes same = record { later = m; writes = NoRow; makes = goes_as E m team g p k next q ready.invariant ready.member runs s goes same }

pub goes_on_so : GoesOnSo
goes_on_so E m team g k account registers access opened seen ready serial accesses opens holds saw =
    let traced : seen ≡ true → m.traced ≡ E.epoch + 1 = λ e. ((ready.invariant.workers k ready.member).seen_traced (saw e)).1 in
    let size : (p : ℕ) → (team.worker k).size_seen ≡ Some p → E.span ≡ PAGE_WORDS * p = λ p e. ((ready.invariant.workers k ready.member).size_seen p e).1 in
    assumption

pub mutators_learn : MutatorsLearn
mutators_learn E m team g k next ready runs goes account registers = record {
  later = m;
  writes = NoRow;
  keeps = record {
    invariant = mutators_go_on E m team g k next ready.invariant ready.member runs goes;
    shown = λ p s. shown_put E m m team g k next p account registers refl refl refl (λ e. e) s;
    cycle = λ p cy. going_on_keeps_cycle E m team g p k next ready.invariant ready.member runs goes cy;
    ages = λ page. omega arith;
  };
}

-- a step in two halves
pub both : {E : Era} {m n : Memory} {team mid after : Team} {g h : Ghost} {q : plain.Plain} → ((o : plain.Plain) → Cycle E m team g o → Cycle E n mid h o) → ((page : ℕ) → age_of (m.page page) ≤ age_of (n.page page))
    → Makes E n n mid after h h q → Makes E m n team after g h q
both cycle ages y = record { invariant = y.invariant; shown = y.shown; cycle = λ o cy. y.cycle o (cycle o cy); ages = ages }

-- what is so of the state before a store of a heap word is so after it
goes_on : {E : Era} {m : Memory} {g : Ghost} {w next : Known} (addr word : ℕ) → MutatorGoesOn E m g w next → MutatorGoesOn E (with_word m addr word) g w next
goes_on addr word goes = assumption

-- an account agrees with a plain heap in which the mutator has made as many records
pub accounts_in : {before after : plain.Heap} {k : ℕ} {a : Account} {q : plain.Mutator} → plain.serial_of after k ≡ plain.serial_of before k → Accounts before k a q → Accounts after k a q
accounts_in same a = record { counter = a.counter; printed = a.printed; executed = a.executed; end = a.end; serial = a.serial ∙ sym same }

pub mutators_store : MutatorsStore
mutators_store E m team g p k next q a x v r y ready runs s other word opens may is stands goes same =
    let inv = words_are_stored E m team g k ready a x v other word opens may in
    let account = accounts_in (stored_serial p.heap (g.identity a) r x y is k) same.account in
    let none = (words_no_targets ready).of_others a (word_of_value (g.kind a) x) word.last (λ c. other c.weak) in
    record {
      later = with_word m (a + word_of_value (g.kind a) x) v;
      writes = InWord (a + word_of_value (g.kind a) x) v (let l = ready.invariant.laid.lies a word.stands in let o = ready.invariant.laid.order in let lay = ready.laid_out in let z = word.last in omega (arith, l, o, lay.below, lay.old_below, z));
      makes = both (λ o cy. stores_keep_cycle E m team g o a x v ready.laid_out ready.invariant word opens may cy) (λ page. omega arith)
          (goes_as E _ team g _ k next q inv ready.member runs (stores_show E m team g p a x v r y ready.laid_out ready.invariant word other none is stands s)
          (goes_on (a + word_of_value (g.kind a) x) v goes) (record { account = account; registers = same.registers }));
    }

pub mutators_store_on_board : MutatorsStoreOnBoard
mutators_store_on_board E m team g p k next q x v y ready runs s l opens holds goes same =
    let inv = board_is_stored E m team g k ready x v l opens holds.held in
    let none = (words_no_targets ready).board (E.board + x) (omega arith) in
    record {
      later = with_word m (E.board + x) v;
      writes = InWord (E.board + x) v (omega (arith, l));
      makes = both (λ o cy. board_stores_keep_cycle E m team g o x v ready.laid_out ready.invariant l opens holds.held cy) (λ page. omega arith)
          (goes_as E _ team g _ k next q inv ready.member runs (board_stores_show E m team g p x v y ready.laid_out ready.invariant l none holds.denotes s)
          (goes_on (E.board + x) v goes) (record { account = accounts_in refl same.account; registers = same.registers }));
    }

pub mutators_snap : MutatorsSnap
mutators_snap E m team g p k next q ready runs s goes same = record {
  later = m;
  writes = NoRow;
  makes = goes_as E m team g _ k next q ready.invariant ready.member runs (snaps_show E m team g p s) goes (record { account = accounts_in refl same.account; registers = same.registers });
}

-- ---- ends

pub mutators_end : MutatorsEnd
mutators_end E m team g p k q why ready runs s is =
    let a = s.accounts k q is in
    let r = s.registers k q is in
    let w = team.worker k in
    let goes : MutatorGoesOn E m g w (with_end w why) =
    goes_on_so E m team g k (record w.account { end = Some why }) w.registers None None w.traced_seen ready refl (λ f e. none≢some e) (λ x e. none≢some e) (λ n. none≢some (sym n)) (λ e. e) in
    mutators_step E m team g p k (with_end (team.worker k) why) (record q { end = Some why }) ready runs s goes
    (record {
      account = record { counter = a.counter; printed = a.printed; executed = a.executed; end = refl; serial = a.serial };
      registers = record { eight = r.eight; registers_show = λ n. none≢some (sym n) };
    })

pub mutators_find_no_room : MutatorsFindNoRoom
mutators_find_no_room E m team g p k asked q area ready runs s is now seen short =
    let o = ready.invariant.laid.order in
    let few : area.low - area.front < 64 * asked = by_room (cases_lt (area.low - area.front) (64 * asked)) in
    record {
      traced = ((ready.invariant.workers k ready.member).seen_traced seen).1;
      room_is = omega (arith, o, now.front, now.low);
      live_is = omega (arith, now.front);
      short = few;
      ends = mutators_end E m team g p k q (HeapFull asked (area.low - area.front) area.front) ready runs s is;
    }
  where
    by_room : (area.low - area.front < 64 * asked) ⊎ (64 * asked ≤ area.low - area.front) → area.low - area.front < 64 * asked
    by_room (inl l) = l
    by_room (inr l) = absurd (short (let o = ready.invariant.laid.order in omega (arith, l, o, now.front, now.low)))
