-- Direct calls: from loads of the seat to a call.
use Rattle.std.proofs.Common.{◌≡◌, ℕ, ◌+◌, ◌==◌, true, false, [], Some, refl, sym, ◌∙◌, ap, subst}
use Rattle.atomic_table.specs.Seated.{TableId}
use Rattle.atom_store.specs.declared.reply.Reply.TheVariants.{Value}
use Rattle.atom_store.specs.declared.step.Step.{Step}
use Rattle.atom_store.specs.declared.step.Step.TheVariants.{Load}
use Rattle.gc_worker.specs.declared.stage.Stage.{Stage}
use Rattle.gc_worker.specs.declared.stage.Stage.TheVariants.{Looks}
use Rattle.gc_worker.specs.declared.steps.answered.Answered.{Answered}
use Rattle.gc_worker.specs.declared.steps.answered.Answered.TheVariants.{Executed}
use Rattle.gc_worker.specs.declared.steps.stepped.Stepped.{Stepped}
use Rattle.gc_worker.specs.declared.steps.stepped.Stepped.TheVariants.{Idle, Moved, Traced, Effect, Flipped, Ended}
use Rattle.gc_worker.specs.declared.task.Task.{Task}
use Rattle.gc_worker.specs.declared.task.Task.TheVariants.{Calls}
use Rattle.mutator_asm.specs.declared.instr.Instr.{Instr}
use Rattle.mutator_asm.specs.declared.instr.Instr.TheVariants.{Ld}
use Rattle.mutator_asm.specs.declared.operand.Operand.TheVariants as operands
use Rattle.record_access.specs.declared.access_stage.AccessStage.{AccessStage}
use Rattle.record_access.specs.declared.field_access.Role.{Role}
use Rattle.record_access.specs.Access.{FitsStage as FitsAccessStage, IsHeapAddress, role_of, wanted_at}
use Rattle.record_access.specs.StoredValue.{HasStored}
use Rattle.heap_state.specs.Meaning.Loaded.{word_held}
use Rattle.mmu_model.specs.declared.protection.Protection.TheVariants.{Allowed}
use Rattle.mmu_model.specs.Protection.{protection_of}
use Rattle.space_map.specs.PageWord.{decode_page}
use Rattle.space_map.specs.Spaces.{page_of}
use Rattle.space_map.specs.Table.{Gate, place_of}
use Rattle.gc_worker.specs.Laws.Between.{IsIdle, KeepsToTask, with_task}
use Rattle.gc_worker.specs.Laws.Cycles.{IsInCall}
use Rattle.gc_worker.specs.Workers.Fits.{Fits, MayBegin}
use Rattle.gc_worker.specs.Workers.Held.{Held}
use Rattle.gc_worker.specs.Steps.Direct.{BringsTo, CatchesUp, LeadsTo, MayCatchUp, answered_by, at_access, loads_header, loads_value, looks_at_record, looks_at_value}
use Rattle.gc_worker.specs.Steps.Stepped.{IsSound, stepped_by, uncounted}
use Rattle.gc_worker.specs.Steps.Turned.{loads, told, turned}
use Rattle.gc_worker.specs.Steps.Turned.{begins as begun_at}
use Rattle.gc_worker.specs.Steps.Wanted.{wanted}
use Rattle.gc_worker.specs.Steps.Wanted.{wanted_at as worker_wants}
use Rattle.gc_worker.proofs.Stages.Direct.{finds_far, finds_near, load_begins, opens_record, opens_value, value_in_heap}
use Rattle.gc_worker.proofs.Between.KeptTasks.{workers_go_on}
use Rattle.ael_threads.specs.declared.view.View.{View}
use Rattle.ael_threads.specs.Calls.{IsUnderWay}
use Rattle.ael_threads.specs.Direct.{BeginsCall, IsReady}
use Rattle.ael_threads.specs.Seats.{Acts, FitsTable, HasHeardAllSeen, Heads, IsMine, Me, Moves, Seated, ShowsSeen, first_number}
use Rattle.ael_threads.proofs.WholeCalls.Acts.{acts, heads_fit}
use Rattle.ael_threads.proofs.WholeCalls.Began.{given_none}
use Rattle.ael_threads.proofs.WholeCalls.BetweenSteps.{begins, begun_shows, has_heard_all, moved_heads, still_live}
use Rattle.ael_threads.proofs.WholeCalls.FromActs.{ended, executed, under_way, way_more}

-- the caller that began a task, as the proofs have it
pub record Goes (a : Seated) (task : Task) (b : Seated) : Type 0 where
  pub under : IsUnderWay a task b
  pub ready : IsReady b
  pub number : b.worker.number ≡ a.worker.number
  pub mutators : b.worker.mutators ≡ a.worker.mutators

pub goes_first : (a : Seated) (task : Task) → IsReady a → IsIdle a.worker → MayBegin a.worker.account a.worker.registers (Some task) → a.worker.stage ≡ Looks → Goes a task (record a { worker = with_task a.worker task })
goes_first a task ready idle may looks = let y = with_task a.worker task in record {
  under = under_way a (record a { worker = y }) task refl refl (λ call. absurd (subst (λ (s : Stage). IsInCall s) looks call));
  ready = record {
    heads = begins a.knows.plan a.worker y task a.knows.hands refl ready.heads idle may;
    live = ready.live;
    mine = ready.mine;
    shows = begun_shows a.worker y task a.knows refl ready.shows;
    heard = ready.heard;
  };
  number = refl;
  mutators = refl;
}

-- a word was loaded for its worker, and the seat has heard
module _ (b : Seated) (q : Step) (word : ℕ) (y : Held) (t : TableId) (w : View) (ready : IsReady b) (wants : wanted b.worker ≡ Some q) (is : y ≡ uncounted (turned b.worker (Value word))) (table : t ≡ b.table)
    (moves : Moves b.knows (first_number b.knows.hands) b.worker (Value word) w) where
  pub ready_after : IsReady (record { table = t; worker = y; knows = w })
  ready_after = record {
    heads = moved_heads b.knows b.worker y (Value word) w ready.heads moves is;
    live = still_live t b.table b.knows w table moves.plan ready.live;
    mine = moves.mine;
    shows = subst (λ (z : Held). ShowsSeen z w) (sym is) moves.shows;
    heard = has_heard_all b.knows (first_number b.knows.hands) b.worker (Value word) w moves;
  }

  acted : (s : Stepped) → s ≡ stepped_by b.worker.number (told b.worker (Value word)) → Acts b s (record { table = t; worker = y; knows = w })
  acted s tells = acts b (Value word) s (record { table = t; worker = y; knows = w }) q ready.heads wants tells is moves

  kept : KeepsToTask b.worker (Value word)
  kept = workers_go_on b.knows.plan.spaces.pages b.knows.plan.mutators (first_number b.knows.hands) b.worker (Value word) (heads_fit b.knows.plan b.worker b.knows.hands ready.heads)

  pub same_number : y.number ≡ b.worker.number
  same_number = ap (λ (z : Held). z.number) is ∙ kept.number

  pub same_mutators : y.mutators ≡ b.worker.mutators
  same_mutators = ap (λ (z : Held). z.mutators) is ∙ kept.mutators

-- the word takes it one stage further
pub goes_on : (a b : Seated) (task : Task) (q : Step) (word : ℕ) (y : Held) (t : TableId) (w : View) → Goes a task b → wanted b.worker ≡ Some q → BringsTo b.worker word y → y ≡ uncounted y → t ≡ b.table
    → Moves b.knows (first_number b.knows.hands) b.worker (Value word) w → Goes a task (record { table = t; worker = y; knows = w })
goes_on a b task q word y t w g wants brings counts table moves =
    let is : y ≡ uncounted (turned b.worker (Value word)) = counts ∙ ap uncounted (sym brings.becomes) in
    let act = acted b q word y t w g.ready wants is table moves Moved (ap (stepped_by b.worker.number) (sym brings.silent)) in record {
      under = way_more a b (record { table = t; worker = y; knows = w }) task Moved g.under act (λ m e. cc) (λ m end e. cc);
      ready = ready_after b q word y t w g.ready wants is table moves;
      number = same_number b q word y t w g.ready wants is table moves ∙ g.number;
      mutators = same_mutators b q word y t w g.ready wants is table moves ∙ g.mutators;
    }

-- how the call stands after its last act
begun_by : (a b c : Seated) (task : Task) (s : Stepped) → IsUnderWay a task b → Acts b s c → BeginsCall a task (answered_by s) c
begun_by a b c task Idle u act = way_more a b c task Idle u act (λ m e. cc) (λ m end e. cc)
begun_by a b c task Moved u act = way_more a b c task Moved u act (λ m e. cc) (λ m end e. cc)
begun_by a b c task Traced u act = way_more a b c task Traced u act (λ m e. cc) (λ m end e. cc)
begun_by a b c task (Flipped n) u act = way_more a b c task (Flipped n) u act (λ m e. cc) (λ m end e. cc)
begun_by a b c task (Effect m) u act = executed a b c task m u act
begun_by a b c task (Ended m end) u act = (end, ended a b c task m end u act)

-- the worker's code has come to where the worker of the proofs is
pub comes_there : (a b : Seated) (task : Task) (q : Step) (word : ℕ) (y : Held) (t : TableId) (w : View) (answer : Answered) → Goes a task b → wanted b.worker ≡ Some q → y ≡ uncounted (turned b.worker (Value word)) → t ≡ b.table
    → Moves b.knows (first_number b.knows.hands) b.worker (Value word) w → answer ≡ answered_by (stepped_by b.worker.number (told b.worker (Value word))) → BeginsCall a task answer (record { table = t; worker = y; knows = w })
comes_there a b task q word y t w answer g wants is table moves tells =
    subst (λ (z : Answered). BeginsCall a task z (record { table = t; worker = y; knows = w })) (sym tells)
    (begun_by a b (record { table = t; worker = y; knows = w }) task (stepped_by b.worker.number (told b.worker (Value word))) g.under
    (acted b q word y t w g.ready wants is table moves (stepped_by b.worker.number (told b.worker (Value word))) refl))

-- ---- what a caller keeps

-- what the type of callers keeps of a seat that knows me
abbrev pub Keeps : TableId → Me → Held → Type 0
Keeps t me x = (me.1 ≡ []) × Heads me.0.plan x me.0.hands × FitsTable t me.0 × IsMine me.0 × ShowsSeen x me.0 × HasHeardAllSeen me.0

pub caller_ready : {t : TableId} {me : Me} {x : Held} {b : Seated} → record { table = t; worker = x; knows = me.0 } ≡ b → Keeps t me x → IsReady b
caller_ready view k = subst IsReady view (record { heads = k.1; live = k.2; mine = k.3; shows = k.4; heard = k.5 })

pub invariant_of : {t : TableId} {me : Me} {x : Held} → me.1 ≡ [] → IsReady (record { table = t; worker = x; knows = me.0 }) → Keeps t me x
invariant_of none r = (none, r.heads, r.live, r.mine, r.shows, r.heard)

-- ---- catching up

is_sound : (n mutators k : ℕ) (x : Held) → Fits n mutators k x → IsSound x
is_sound n mutators k x f = subst (λ (z : ℕ × (ℕ × ℕ)). Fits z.0 z.1.0 z.1.1 x) (λ i. (sym f.pages i, (sym f.beside i, sym f.number i))) f

-- the code may come to where the worker of the proofs is
pub may_catch_up : (b : Seated) (word : ℕ) (w : View) → IsReady b → Moves b.knows (first_number b.knows.hands) b.worker (Value word) w → MayCatchUp b.worker word
may_catch_up b word w ready moves = record {
  sound = is_sound b.knows.plan.spaces.pages b.knows.plan.mutators (first_number b.knows.hands) b.worker (heads_fit b.knows.plan b.worker b.knows.hands ready.heads);
  takes = moves.takes;
  fits = is_sound b.knows.plan.spaces.pages b.knows.plan.mutators (first_number b.knows.hands) (turned b.worker (Value word)) moves.fits;
}

-- ---- `ld` with a number as index

-- a caller is given a task before its look
pub begun_apart : (t : TableId) (v : View) (x0 x y : Held) (b : Seated) (task : Task) → x ≡ x0 → y ≡ with_task x task → record { table = t; worker = x0; knows = v } ≡ b → IsReady b → IsIdle b.worker → MayBegin b.worker.account b.worker.registers (Some task)
    → IsReady (record { table = t; worker = y; knows = v }) × IsUnderWay b task (record { table = t; worker = y; knows = v })
begun_apart t v x0 x y b task now given view ready idle may =
    let c : Seated = record { table = t; worker = y; knows = v } in
    let same : y ≡ with_task b.worker task = given ∙ ap (λ (z : Held). with_task z task) (now ∙ ap (λ (z : Seated). z.worker) view) in
    let knows : v ≡ b.knows = ap (λ (z : Seated). z.knows) view in
    let table : t ≡ b.table = ap (λ (z : Seated). z.table) view in
    let k = b.knows in (
      subst (λ (z : TableId × (Held × View)). IsReady (record { table = z.0; worker = z.1.0; knows = z.1.1 })) (λ i. (sym table i, (sym same i, sym knows i))) (record {
        heads = begins k.plan b.worker (with_task b.worker task) task k.hands refl ready.heads idle may;
        live = ready.live;
        mine = ready.mine;
        shows = begun_shows b.worker (with_task b.worker task) task k refl ready.shows;
        heard = ready.heard;
      }),
      under_way b c task same knows (given_none k.plan.spaces.pages k.plan.mutators (first_number k.hands) b.worker y task (heads_fit k.plan b.worker k.hands ready.heads) idle.no_task same),
    )

-- The caller b looks, and may begin it; a is the same, as the code holds it.
pub record Starts (a b : Seated) (into base value : ℕ) : Type 0 where
  pub same : a ≡ b
  pub ready : IsReady a
  pub idle : IsIdle a.worker
  pub may : MayBegin a.worker.account a.worker.registers (Some (Calls (Ld into base (operands.Number value))))
  pub looks : a.worker.stage ≡ Looks
  pub counts : a.worker ≡ uncounted a.worker

pub starts : (t : TableId) (v : View) (x0 x : Held) (b : Seated) (into base value : ℕ) → x ≡ x0 → record { table = t; worker = x0; knows = v } ≡ b → IsReady b → IsIdle b.worker
    → MayBegin b.worker.account b.worker.registers (Some (Calls (Ld into base (operands.Number value)))) → x.stage ≡ Looks → x ≡ uncounted x → Starts (record { table = t; worker = x; knows = v }) b into base value
starts t v x0 x b into base value now view ready idle may looks counts =
    let same : record { table = t; worker = x; knows = v } ≡ b = (λ i. record { table = t; worker = now i; knows = v }) ∙ view in record {
      same = same;
      ready = subst IsReady (sym same) ready;
      idle = subst (λ (z : Seated). IsIdle z.worker) (sym same) idle;
      may = subst (λ (z : Seated). MayBegin z.worker.account z.worker.registers (Some (Calls (Ld into base (operands.Number value))))) (sym same) may;
      looks = looks;
      counts = counts;
    }

-- the call was begun, and the caller has come to this
pub record Arrived (b : Seated) (task : Task) (answer : Answered) (c : Seated) : Type 0 where
  pub ready : IsReady c
  pub number : c.worker.number ≡ b.worker.number
  pub mutators : c.worker.mutators ≡ b.worker.mutators
  pub begun : BeginsCall b task answer c

arrives : (a b d : Seated) (task : Task) (q : Step) (word : ℕ) (y : Held) (t : TableId) (w : View) (answer : Answered) → a ≡ b → Goes a task d → wanted d.worker ≡ Some q → CatchesUp d.worker word answer y → t ≡ d.table
    → Moves d.knows (first_number d.knows.hands) d.worker (Value word) w → Arrived b task answer (record { table = t; worker = y; knows = w })
arrives a b d task q word y t w answer same g wants caught table moves = subst (λ (z : Seated). Arrived z task answer (record { table = t; worker = y; knows = w })) same (record {
  ready = ready_after d q word y t w g.ready wants caught.state table moves;
  number = same_number d q word y t w g.ready wants caught.state table moves ∙ g.number;
  mutators = same_mutators d q word y t w g.ready wants caught.state table moves ∙ g.mutators;
  begun = comes_there a d task q word y t w answer g wants caught.state table moves caught.tells;
})

module _ {a b : Seated} {into base value : ℕ} (s : Starts a b into base value) where
  abbrev pub load : Instr
  load = Ld into base (operands.Number value)

  -- so far ahead at this stage, where the seat knows this
  abbrev pub ahead_at : TableId → View → AccessStage → Seated
  ahead_at t v stage = record { table = t; worker = at_access a.worker load stage; knows = v }

  abbrev pub IsAt : TableId → View → AccessStage → Type 0
  IsAt t v stage = Goes a (Calls load) (ahead_at t v stage)

  -- its seat has loaded a word there
  abbrev pub HasLoaded : View → AccessStage → ℕ → View → Type 0
  HasLoaded v stage word w = Moves v (first_number v.hands) (at_access a.worker load stage) (Value word) w

  counts_there : (stage : AccessStage) → at_access a.worker load stage ≡ uncounted (at_access a.worker load stage)
  counts_there stage = ap (λ (z : Held). at_access z load stage) s.counts

  further : (t u : TableId) (v w : View) (from to : AccessStage) (word : ℕ) → IsAt t v from → BringsTo (at_access a.worker load from) word (at_access a.worker load to) → u ≡ t → HasLoaded v from word w → IsAt u w to
  further t u v w from to word g brings table moves =
      goes_on a (ahead_at t v from) (Calls load) (wanted_at a.worker.layout from) word (at_access a.worker load to) u w g refl brings (counts_there to) table moves

  brings_at : {from from' to to' : AccessStage} {word : ℕ} → from ≡ from' → to ≡ to' → BringsTo (at_access a.worker load from') word (at_access a.worker load to')
      → BringsTo (at_access a.worker load from) word (at_access a.worker load to)
  brings_at {word = word} from to brings = subst (λ (z : AccessStage × AccessStage). BringsTo (at_access a.worker load z.0) word (at_access a.worker load z.1)) (λ i. (sym from i, sym to i)) brings

  -- ---- at the gate

  pub at_gate : Goes a (Calls load) (record a { worker = with_task a.worker (Calls load) })
  at_gate = goes_first a (Calls load) s.ready s.idle s.may s.looks

  gate_wanted : wanted (with_task a.worker (Calls load)) ≡ Some (Load (place_of a.worker.layout.pages Gate))
  gate_wanted = ap (λ (stage : Stage). worker_wants (with_task a.worker (Calls load)) stage) s.looks

  abbrev pub HasSeenGate : ℕ → View → Type 0
  HasSeenGate gate w = Moves a.knows (first_number a.knows.hands) (with_task a.worker (Calls load)) (Value gate) w

  pub may_at_gate : (gate : ℕ) (w : View) → HasSeenGate gate w → MayCatchUp (with_task a.worker (Calls load)) gate
  may_at_gate gate w moves = may_catch_up (record a { worker = with_task a.worker (Calls load) }) gate w at_gate.ready moves

  pub arrives_at_gate : {t : TableId} {w : View} {gate : ℕ} {answer : Answered} {y : Held} → CatchesUp (with_task a.worker (Calls load)) gate answer y → t ≡ a.table → HasSeenGate gate w → Arrived b (Calls load) answer (record { table = t; worker = y; knows = w })
  arrives_at_gate {t = t} {w = w} {gate = gate} {answer = answer} {y = y} caught table moves =
      arrives a b (record a { worker = with_task a.worker (Calls load) }) (Calls load) (Load (place_of a.worker.layout.pages Gate)) gate y t w answer s.same at_gate gate_wanted caught table moves

  pub past_gate : {gate at : ℕ} {stage : AccessStage} {t : TableId} {w : View} → stage ≡ looks_at_record at value into → LeadsTo a.worker gate base at → t ≡ a.table → HasSeenGate gate w → IsAt t w stage
  past_gate {gate = gate} {at = at} {stage = stage} {t = t} {w = w} is leads table moves = subst (IsAt t w) (sym is)
      (goes_on a (record a { worker = with_task a.worker (Calls load) }) (Calls load) (Load (place_of a.worker.layout.pages Gate)) gate (at_access a.worker load (looks_at_record at value into)) t w at_gate gate_wanted
      (load_begins a.worker gate base into value at s.looks leads) (counts_there (looks_at_record at value into)) table moves)

  -- ---- in the access

  pub may_there : {t : TableId} {v w : View} {stage is : AccessStage} {word : ℕ} → IsAt t v stage → stage ≡ is → HasLoaded v stage word w → MayCatchUp (at_access a.worker load is) word
  may_there {t = t} {v = v} {w = w} {stage = stage} {word = word} g is moves = subst (λ (z : AccessStage). MayCatchUp (at_access a.worker load z) word) is (may_catch_up (ahead_at t v stage) word w g.ready moves)

  pub arrives_there : {t u : TableId} {v w : View} {stage is : AccessStage} {word : ℕ} {answer : Answered} {y : Held} → IsAt t v stage → stage ≡ is → CatchesUp (at_access a.worker load is) word answer y → u ≡ t → HasLoaded v stage word w
      → Arrived b (Calls load) answer (record { table = u; worker = y; knows = w })
  arrives_there {t = t} {u = u} {v = v} {w = w} {stage = stage} {word = word} {answer = answer} {y = y} g is caught table moves =
      arrives a b (ahead_at t v stage) (Calls load) (wanted_at a.worker.layout stage) word y u w answer s.same g refl (subst (λ (z : AccessStage). CatchesUp (at_access a.worker load z) word answer y) (sym is) caught) table moves

  pub past_page : {t u : TableId} {v w : View} {from to : AccessStage} {at word : ℕ} → IsAt t v from → from ≡ looks_at_record at value into → to ≡ loads_header at value into
      → protection_of (page_of at) (decode_page word) a.worker.epoch ≡ Allowed → u ≡ t → HasLoaded v from word w → IsAt u w to
  past_page {t = t} {u = u} {v = v} {w = w} {from = from} {to = to} {at = at} {word = word} g is next allowed table moves =
      further t u v w from to word g (brings_at is next (opens_record a.worker load at value into word allowed)) table moves

  pub to_near_value : {t u : TableId} {v w : View} {from to : AccessStage} {at word : ℕ} {role : Role} → IsAt t v from → from ≡ loads_header at value into → to ≡ loads_value at value role into
      → HasStored word value role → (page_of at == page_of (at + (value + 1))) ≡ true → u ≡ t → HasLoaded v from word w → IsAt u w to
  to_near_value {t = t} {u = u} {v = v} {w = w} {from = from} {to = to} {at = at} {word = word} {role = role} g is next stored near table moves =
      further t u v w from to word g (brings_at is next (finds_near a.worker load at value into word role stored near)) table moves

  pub to_far_value : {t u : TableId} {v w : View} {from to : AccessStage} {at word : ℕ} {role : Role} → IsAt t v from → from ≡ loads_header at value into → to ≡ looks_at_value at value role into
      → HasStored word value role → (page_of at == page_of (at + (value + 1))) ≡ false → u ≡ t → HasLoaded v from word w → IsAt u w to
  to_far_value {t = t} {u = u} {v = v} {w = w} {from = from} {to = to} {at = at} {word = word} {role = role} g is next stored far table moves =
      further t u v w from to word g (brings_at is next (finds_far a.worker load at value into word role stored far)) table moves

  pub past_value_page : {t u : TableId} {v w : View} {from to : AccessStage} {at there word : ℕ} {role : Role} → IsAt t v from → from ≡ looks_at_value at value role into → to ≡ loads_value at value role into
      → there ≡ at + (value + 1) → protection_of (page_of there) (decode_page word) a.worker.epoch ≡ Allowed → u ≡ t → HasLoaded v from word w → IsAt u w to
  past_value_page {t = t} {u = u} {v = v} {w = w} {from = from} {to = to} {at = at} {word = word} {role = role} g is next there allowed table moves =
      further t u v w from to word g
      (brings_at is next (opens_value a.worker load at value into word role (subst (λ (z : ℕ). protection_of (page_of z) (decode_page word) a.worker.epoch ≡ Allowed) there allowed))) table moves

  -- the value is in its register
  pub has_loaded : {stage : AccessStage} {at word : ℕ} {role : Role} {y : Held} → stage ≡ loads_value at value role into → y ≡ uncounted (loads (begun_at a.worker) into (word_held (role_of role) word)) → CatchesUp (at_access a.worker load (loads_value at value role into)) word Executed y
  has_loaded is loaded = record { state = loaded; tells = refl }

  -- ---- where the words lie

  stage_fits : {t : TableId} {v : View} {stage : AccessStage} → IsAt t v stage → FitsAccessStage a.worker.layout.pages stage
  stage_fits {t = t} {v = v} {stage = stage} g = (heads_fit v.plan (at_access a.worker load stage) v.hands g.ready.heads).stage.sound.stage

  pub record_lies : {t : TableId} {v : View} {stage : AccessStage} {at : ℕ} → IsAt t v stage → stage ≡ looks_at_record at value into → IsHeapAddress a.worker.layout.pages at
  record_lies g is = (subst (FitsAccessStage a.worker.layout.pages) is (stage_fits g)).0

  pub value_lies : {t : TableId} {v w : View} {stage : AccessStage} {at word : ℕ} {role : Role} → IsAt t v stage → stage ≡ loads_header at value into → HasStored word value role → HasLoaded v stage word w
      → IsHeapAddress a.worker.layout.pages (at + (value + 1))
  value_lies {at = at} {word = word} {role = role} g is stored moves = value_in_heap a.worker load at value into word role stored (may_there g is moves).fits
