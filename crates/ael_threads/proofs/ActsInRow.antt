-- Acts in a row: how a series grows, and what a round keeps.
use Rattle.std.proofs.Common.{◌≡◌, ◌<◌, ◌||◌, Bool, true, false, Some, None, List, [], ◌∷◌, ◌++◌, ℕ, length, refl, sym, ◌∙◌, ap, subst, arith}
use Rattle.std.proofs.lemmas.Option.{same_Some}
use Rattle.plain_state.specs.declared.end.End.{End}
use Rattle.gc_worker.specs.declared.stage.Stage.TheVariants as stages
use Rattle.gc_worker.specs.declared.steps.stepped.Stepped.{Stepped}
use Rattle.gc_worker.specs.declared.steps.stepped.Stepped.TheVariants as stepped
use Rattle.gc_worker.specs.Steps.AtRest.{is_at_rest}
use Rattle.gc_worker.specs.Steps.Wanted.{wanted}
use Rattle.ael_threads.specs.declared.calls.TheConstants.{ACTS}
use Rattle.ael_threads.specs.declared.rounds.Round.{Round}
use Rattle.ael_threads.specs.declared.rounds.Round.TheVariants as rounds
use Rattle.ael_threads.specs.ActsInRow.{GoesRound, IsAsked, MakesRound, MakesRounds, MakesSome, RoundAsked, ScannerActs, Series, ends_round, has_written, is_answer, is_idle, is_stopped, round_told}
use Rattle.ael_threads.specs.Calls.{StaysSilent}
use Rattle.ael_threads.specs.Readers.{SeatedScanner}
use Rattle.ael_threads.specs.Rounds.{is_write}
use Rattle.ael_threads.specs.Seats.{Acts, Seated}
use Rattle.ael_threads.proofs.ScannerActs.{claims_kept}
use Rattle.ael_threads.proofs.WholeCalls.FromActs.{quiet_more}

-- ---- a series, whatever is made

module _ {S T : Type 0} (Makes : S → T → S → Type 0) (stops : T → S → Bool) where
  -- one more, which doesn't stop it
  pub series_more : (a : S) (before : List S) (b : S) (told : T) (c : S) → Series Makes stops a before b → Makes b told c → stops told c ≡ false → Series Makes stops a (b ∷ before) c
  series_more a before b told c so_far made on = (told, made, on, so_far)

  -- one after another
  pub series_then : (a : S) (before : List S) (b : S) (more : List S) (c : S) → Series Makes stops a before b → Series Makes stops b more c → Series Makes stops a (more ++ before) c
  series_then a before b [] c h k = subst (Series Makes stops a before) (sym k) h
  series_then a before b (d ∷ more) c h k = (k.0, k.1, k.2, series_then a before b more d h k.3)

  -- one that stops it, if fewer than ACTS were made before
  pub some_stopped : (a : S) (before : List S) (b : S) (told : T) (c : S) (n : ℕ) → Series Makes stops a before b → length before ≡ n → n < ACTS → Makes b told c → stops told c ≡ true → MakesSome Makes stops true a c
  some_stopped a before b told c n so_far count few made done = record {
    until = record { before = before; last = b; series = so_far; told = told; made = made; done = sym done };
    most = omega (arith, count, few);
    all = λ e. absurd (cc);
  }

  -- as many as ACTS, none of which stops it
  pub some_made : (a : S) (before : List S) (b : S) → Series Makes stops a before b → length before ≡ ACTS → MakesSome Makes stops false a b
  some_made a [] b so_far count = absurd (omega (arith, count))
  some_made a (c ∷ before) b so_far count = record {
    until = record { before = before; last = c; series = so_far.3; told = so_far.0; made = so_far.1; done = sym so_far.2 };
    most = omega (arith, count);
    all = λ e. omega (arith, count);
  }

  -- if none of them stops it they are a series
  pub some_series : (a b : S) → (h : MakesSome Makes stops false a b) → Series Makes stops a (h.until.last ∷ h.until.before) b
  some_series a b h = (h.until.told, h.until.made, sym h.until.done, h.until.series)

-- ---- which act stops it

-- neither an effect nor an end
pub no_answer : (told : Stepped) (b : Seated) → ((m : ℕ) → told ≡ stepped.Effect m → ⊥) → ((m : ℕ) (end : End) → told ≡ stepped.Ended m end → ⊥) → is_answer told b ≡ false
no_answer (stepped.Effect m) b effect ended = absurd (effect m refl)
no_answer (stepped.Ended m end) b effect ended = absurd (ended m end refl)
no_answer _ b effect ended = refl

pub not_idle : (told : Stepped) (b : Seated) → (told ≡ stepped.Idle → ⊥) → is_idle told b ≡ false
not_idle stepped.Idle b idle = absurd (idle refl)
not_idle _ b idle = refl

-- ---- what was written

or_after : (a b c : Bool) → a || (b || c) ≡ (a || b) || c
or_after true b c = refl
or_after false b c = refl

-- an act more
pub written_more : (now before was : Bool) (rest : Bool) → was ≡ before || rest → now || was ≡ (now || before) || rest
written_more now before was rest e = ap (λ (b : Bool). now || b) e ∙ or_after now before rest

written_append : (more before : List SeatedScanner) → has_written (more ++ before) ≡ has_written more || has_written before
written_append [] before = refl
written_append (c ∷ more) before = ap (λ (b : Bool). is_write (wanted c.seated.worker) || b) (written_append more before) ∙ or_after (is_write (wanted c.seated.worker)) (has_written more) (has_written before)

unwritten : (a b : Bool) → a || b ≡ false → (a ≡ false) × (b ≡ false)
unwritten true b e = absurd (cc)
unwritten false b e = (refl, e)

-- ---- a round

-- as many acts as ACTS, none of which ends it
pub goes_on_by : (a : SeatedScanner) (before : List SeatedScanner) (b : SeatedScanner) (was now : Bool) → Series ScannerActs ends_round a before b → length before ≡ ACTS → now ≡ has_written before || was → GoesRound was now None a b
unfolding some_made
goes_on_by a [] b was now so_far count wrote = absurd (omega (arith, count))
goes_on_by a (c ∷ before) b was now so_far count wrote = record { some = some_made ScannerActs ends_round a (c ∷ before) b so_far count; written = wrote; came = λ round e. absurd (cc) }

-- an act that ends it
pub ends_by : (a : SeatedScanner) (before : List SeatedScanner) (b : SeatedScanner) (was now : Bool) (told : Stepped) (c : SeatedScanner) (n : ℕ) (round : Round) → Series ScannerActs ends_round a before b → length before ≡ n → n < ACTS
    → ScannerActs b told c → ends_round told c ≡ true → now ≡ has_written (b ∷ before) || was → round ≡ round_told told now → GoesRound was now (Some round) a c
unfolding some_stopped
ends_by a before b was now told c n round so_far count few made done wrote came = record {
  some = some_stopped ScannerActs ends_round a before b told c n so_far count few made done;
  written = wrote;
  came = λ r e. sym (same_Some round r e) ∙ came;
}

-- some acts of it were made before, and none of these ends it
pub round_goes_on : (a : SeatedScanner) (before : List SeatedScanner) (b : SeatedScanner) (was now : Bool) (c : SeatedScanner) → Series ScannerActs ends_round a before b → was ≡ has_written before → GoesRound was now None b c
    → (more : List SeatedScanner) × Series ScannerActs ends_round a more c × (now ≡ has_written more)
round_goes_on a before b was now c so_far wrote g =
    let more = g.some.until.last ∷ g.some.until.before in (
      more ++ before,
      series_then ScannerActs ends_round a before b more c so_far (some_series ScannerActs ends_round b c g.some),
      g.written ∙ (ap (λ (w : Bool). has_written more || w) wrote ∙ sym (written_append more before)),
    )

pub round_ends : (a : SeatedScanner) (before : List SeatedScanner) (b : SeatedScanner) (was now : Bool) (round : Round) (c : SeatedScanner) → Series ScannerActs ends_round a before b → was ≡ has_written before → GoesRound was now (Some round) b c
    → MakesRound round a c
round_ends a before b was now round c so_far wrote g =
    let u = g.some.until in record {
      until = record {
        before = u.before ++ before;
        last = u.last;
        series = series_then ScannerActs ends_round a before b u.before u.last so_far u.series;
        told = u.told;
        made = u.made;
        done = u.done;
      };
      came = g.came round refl ∙ ap (round_told u.told) (g.written ∙ (ap (λ (w : Bool). has_written (u.last ∷ u.before) || w) wrote ∙ sym (written_append (u.last ∷ u.before) before)));
    }

-- after it the scanner rests
pub round_rests : (round : Round) (a b : SeatedScanner) → MakesRound round a b → is_at_rest b.seated.worker ≡ true
round_rests round a b h = sym h.until.done

-- ---- what it keeps

series_silent : (a : SeatedScanner) (before : List SeatedScanner) (b : SeatedScanner) (x : Seated) → Series ScannerActs ends_round a before b → StaysSilent x a.seated → StaysSilent x b.seated
series_silent a [] b x h q = subst (λ (z : SeatedScanner). StaysSilent x z.seated) (sym h) q
series_silent a (c ∷ before) b x h q = quiet_more x c.seated b.seated h.0 (series_silent a before c x h.3 q) h.1.act

pub round_silent : (round : Round) (a b : SeatedScanner) (x : Seated) → MakesRound round a b → StaysSilent x a.seated → StaysSilent x b.seated
round_silent round a b x h q = let u = h.until in quiet_more x u.last.seated b.seated u.told (series_silent a u.before u.last x u.series q) u.made.act

gone_told : (told : Stepped) (written : Bool) (a b : Seated) → rounds.Gone ≡ round_told told written → Acts a told b → b.worker.stage ≡ stages.Gone
gone_told stepped.Idle written a b is h = ap (λ (z : Seated). z.worker.stage) h.0 ∙ h.1
gone_told _ true a b is h = absurd (cc)
gone_told _ _ a b is h = absurd (cc)

-- a round that comes to Gone leaves the scanner gone
pub round_gone : (round : Round) (a b : SeatedScanner) → MakesRound round a b → round ≡ rounds.Gone → b.seated.worker.stage ≡ stages.Gone
round_gone round a b h is = let u = h.until in gone_told u.told (has_written (u.last ∷ u.before)) u.last.seated b.seated (sym is ∙ h.came) u.made.act

nothing_told : (told : Stepped) (written : Bool) → rounds.Nothing ≡ round_told told written → written ≡ false
nothing_told told false is = refl
nothing_told stepped.Idle true is = absurd (cc)
nothing_told _ true is = absurd (cc)

series_claims : (a : SeatedScanner) (before : List SeatedScanner) (b : SeatedScanner) → Series ScannerActs ends_round a before b → has_written before ≡ false → b.seated.knows.claims ≡ a.seated.knows.claims
series_claims a [] b h none = ap (λ (z : SeatedScanner). z.seated.knows.claims) h
series_claims a (c ∷ before) b h none =
    let e = unwritten (is_write (wanted c.seated.worker)) (has_written before) none in
    claims_kept c.seated b.seated h.0 h.1.act e.0 ∙ series_claims a before c h.3 e.1

-- one with nothing to do wins no page
pub round_claims : (round : Round) (a b : SeatedScanner) → MakesRound round a b → round ≡ rounds.Nothing → b.seated.knows.claims ≡ a.seated.knows.claims
round_claims round a b h is =
    let u = h.until in
    let e = unwritten (is_write (wanted u.last.seated.worker)) (has_written u.before) (nothing_told u.told (has_written (u.last ∷ u.before)) (sym is ∙ h.came)) in
    claims_kept u.last.seated b.seated u.told u.made.act e.0 ∙ series_claims a u.before u.last u.series e.1

-- ---- rounds in a row

pub not_worked : (round : Round) → round ≡ rounds.Worked → round ≡ rounds.Gone → ⊥
not_worked round is e = cc

pub not_nothing : (round : Round) → round ≡ rounds.Nothing → round ≡ rounds.Gone → ⊥
not_nothing round is e = cc

module _ {F : Type 0} (Asks : F → Bool → F → Type 0) where
  was_asked : (round : Round) (f : F) (stop : Bool) (g : F) → (round ≡ rounds.Gone → ⊥) → Asks f stop g → IsAsked Asks round f stop g
  was_asked rounds.Worked f stop g lives h = h
  was_asked rounds.Nothing f stop g lives h = h
  was_asked rounds.Gone f stop g lives h = absurd (lives refl)

  -- a round more, after which it was told to go on
  pub rounds_more : (a : SeatedScanner) (f : F) (before : List (SeatedScanner × F)) (b : SeatedScanner) (g : F) (round : Round) (c : SeatedScanner) (stop : Bool) (h : F)
      → Series (RoundAsked Asks) is_stopped (a, f) before (b, g) → MakesRound round b c → (round ≡ rounds.Gone → ⊥) → Asks g stop h → stop ≡ false → Series (RoundAsked Asks) is_stopped (a, f) ((b, g) ∷ before) (c, h)
  rounds_more a f before b g round c stop h so_far made lives asked on = ((round, stop), record { round = made; asked = was_asked round g stop h lives asked }, on, so_far)

  -- and one after which it was told to stop
  pub rounds_stopped : (a : SeatedScanner) (f : F) (before : List (SeatedScanner × F)) (b : SeatedScanner) (g : F) (round : Round) (c : SeatedScanner) (stop : Bool) (h : F)
      → Series (RoundAsked Asks) is_stopped (a, f) before (b, g) → MakesRound round b c → (round ≡ rounds.Gone → ⊥) → Asks g stop h → stop ≡ true → MakesRounds Asks f round a c
  rounds_stopped a f before b g round c stop h so_far made lives asked done = record {
    after = h;
    until = record { before = before; last = (b, g); series = so_far; told = (round, stop); made = record { round = made; asked = was_asked round g stop h lives asked }; done = sym done };
    is = refl;
  }

  -- and one that finds the scanner gone
  pub rounds_gone : (a : SeatedScanner) (f : F) (before : List (SeatedScanner × F)) (b : SeatedScanner) (g : F) (round : Round) (c : SeatedScanner)
      → Series (RoundAsked Asks) is_stopped (a, f) before (b, g) → MakesRound round b c → round ≡ rounds.Gone → MakesRounds Asks f round a c
  rounds_gone a f before b g round c so_far made gone = record {
    after = g;
    until = record {
      before = before;
      last = (b, g);
      series = so_far;
      told = (round, true);
      made = record { round = made; asked = subst (λ (r : Round). IsAsked Asks r g true g) (sym gone) (refl, refl) };
      done = refl;
    };
    is = refl;
  }
