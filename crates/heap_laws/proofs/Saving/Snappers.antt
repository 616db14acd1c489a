-- The mutator that begins a checkpoint goes on: its account alone changes, and the plain heap keeps its board and its records.
use Rattle.std.proofs.Common.{◌≡◌, ℕ, ◌<◌, ◌⊎◌, true, Option, Some, None, is_some, refl, sym, ap, ◌∙◌, arith, inl, inr, ⊎_elim}
use Rattle.plain_state.specs.declared.end.End.{End}
use Rattle.plain_state.specs.State as plain
use Rattle.plain_state.specs.declared.value.Identity.{Identity}
use Rattle.space_map.specs.declared.gate_word.GateWord.{GateWord}
use Rattle.heap_state.specs.Cycles.Cycle.{Rooted, RootLeads, ByBoard, ByRegister}
use Rattle.heap_state.specs.Functions.{put}
use Rattle.heap_state.specs.Invariant.Ghost.{Ghost}
use Rattle.heap_state.specs.Invariant.Inductive.{Invariant, Knows}
use Rattle.heap_state.specs.Invariant.Parts.Knowledge.{Clean, Ends, Passes}
use Rattle.heap_state.specs.Memory.Entries.{SnapIs}
use Rattle.heap_state.specs.Memory.Era.{Era, Memory}
use Rattle.heap_state.specs.Known.{Known, Team, Account, Post, Snapping, GateStep, is_mutator, is_running, is_gone, is_late}
use Rattle.heap_state.proofs.Puts.{proj_put, team_put, true_false, some_same}
use Rattle.heap_state.proofs.Workers.Frames.{counted_put, staffed_put, scanned_put, stocks_put, numbered_put}
use Rattle.heap_state.proofs.Represents.Snapped.{snaps_show}
use Rattle.heap_laws.specs.Saving.Snapping.{about_to_clear, SnappersStep}
use Rattle.heap_laws.specs.Steps.{Beside, with_worker}
use Rattle.heap_laws.proofs.Cells.Kept.{same_keeps, in_chain}
use Rattle.heap_laws.proofs.Fields.RunningMutators.{going_on_shows}
use Rattle.heap_laws.proofs.Fields.Laws.{accounts_in}
use Rattle.heap_laws.proofs.Targets.Frames.{made_put}

-- who begins a checkpoint neither runs nor is gone
stands_there : (post : Post) → post ≡ Snapping → (is_running post ≡ true) ⊎ (is_gone post ≡ true) → ⊥
stands_there post is ends = ⊎_elim (λ runs. true_false (ap is_running is) runs) (λ gone. true_false (ap is_gone is) gone) ends

-- so it has no end
none_ended : (o : Option End) → (is_some o ≡ true → ⊥) → o ≡ None
none_ended None never = refl
none_ended (Some why) never = absurd (never refl)

module _ (E : Era) (m : Memory) (team : Team) (g : Ghost) (k : ℕ) (account : Account) (gate : GateWord) (inv : Invariant E m team g) (member : k < team.count)
    (post : (team.worker k).post ≡ Snapping) (serial : account.serial ≡ (team.worker k).account.serial) (goes : account.end ≡ None) where
  abbrev w : Known
  w = team.worker k

  abbrev next : Known
  next = about_to_clear w account gate

  me : Knows E m.gate m.traced m.front m.low m.old_front m.old_low m.old_owed g m.page m.cross m.announced m.heap k w
  me = inv.workers k member

  no_end : w.account.end ≡ None
  no_end = none_ended w.account.end (λ ended. stands_there w.post post (me.ends.stays ended))

  same_end : account.end ≡ w.account.end
  same_end = goes ∙ sym no_end

  knows : Knows E m.gate m.traced m.front m.low m.old_front m.old_low m.old_owed g m.page m.cross m.announced m.heap k next
  knows =
      let ends : Ends next.post (is_some next.account.end) = rw same_end me.ends in
      let registers : is_mutator next.post ≡ true → next.account.end ≡ None → Clean E g.size g.writer (is_late E.epoch next) next.done next.registers = λ mutator n. me.registers mutator no_end in
      let passage : (s : GateStep) → next.gate_step ≡ Some s → Passes next.post next.epoch next.done (is_some next.account.end) next.traced_seen s.read s.passage = λ s e. rw (← some_same e) post in
      assumption (me)

  keeps : Invariant E m (with_worker team k next) g
  keeps =
      let a = counted_put team.worker k next refl refl inv.counted in
      let b = staffed_put team.worker k next refl inv.staffed in
      let c = scanned_put team.worker k next refl inv.scanned in
      let d = numbered_put team.worker k next serial inv.numbered in
      let e = stocks_put team.worker k next (λ q e. e) inv.stocks in
      let f = team_put team.count (Knows E m.gate m.traced m.front m.low m.old_front m.old_low m.old_owed g m.page m.cross m.announced m.heap) team.worker k next (λ j s d. inv.workers j s) knows in
      let h = same_keeps E m m team g g k next (assumption) (assumption) (assumption) (in_chain E next w refl refl refl (assumption)) inv.cells in
      assumption

  -- ---- the cycle

  same_registers : (j : ℕ) → (put team.worker k next j).registers ≡ (team.worker j).registers
  same_registers j = proj_put (λ (u : Known). u.registers) team.worker k next j refl

  leads : (i : Identity) → RootLeads E team.count g.identity m.heap team.worker i → RootLeads E team.count g.identity m.heap (put team.worker k next) i
  leads i (ByBoard x small led) = ByBoard x small led
  leads i (ByRegister j x in_team small late done led) =
      ByRegister j x in_team small (proj_put (is_late E.epoch) team.worker k next j refl ∙ late) (rw (proj_put (λ (u : Known). u.done) team.worker k next j refl) done)
      (rw (same_registers j) led)

  rooted : (p : plain.Plain) → Rooted E m.front team.count g.size g.writer g.identity m.heap team.worker p → Rooted E m.front team.count g.size g.writer g.identity m.heap (put team.worker k next) p
  rooted p r = record {
    roots = λ i root. ⊎_elim (λ copied. inl copied) (λ led. inr (leads i led)) (r.roots i root);
    sound = λ j x i in_team mutator ended small led.
        r.sound j x i in_team (sym (proj_put (λ (u : Known). is_mutator u.post) team.worker k next j refl) ∙ mutator)
        (sym (proj_put (λ (u : Known). u.account.end) team.worker k next j same_end) ∙ ended) small (rw (same_registers j) at led);
  }

pub snappers_step : SnappersStep
snappers_step E m team g p k number account gate q ready post shown serial goes same = record {
  later = m;
  writes = Beside (SnapIs number) tt;
  makes = record {
    invariant = keeps E m team g k account gate ready.invariant ready.member post serial goes;
    shown = going_on_shows E m team g _ k (about_to_clear (team.worker k) account gate) q (snaps_show E m team g p shown) (accounts_in refl same.account) same.registers;
    cycle = λ o cycle. record {
      copying = cycle.copying;
      rooted = rooted E m team g k account gate ready.invariant ready.member post serial goes o cycle.rooted;
      made = made_put team.worker k (about_to_clear (team.worker k) account gate) serial cycle.made;
    };
    ages = λ page. omega arith;
  };
}
