-- A look that begins an allocation, an access or a checkpoint.
use Rattle.std.proofs.Common.{◌≡◌, ℕ, true, Some, None, Ok, refl, sym, subst, arith}
use Rattle.std.specs.Prelude.{⊤}
use Rattle.plain_state.specs.declared.kind.Kind.{Kind}
use Rattle.plain_state.specs.declared.value.Identity.{Identity}
use Rattle.plain_state.specs.declared.value.Value.{Value}
use Rattle.plain_state.specs.declared.value.Value.TheVariants.{Reference}
use Rattle.plain_state.specs.State.{Mutator, Plain}
use Rattle.heap_words.specs.Word.{pointer_word}
use Rattle.mutator_asm.specs.declared.instr.Instr.{Instr}
use Rattle.plain_heap.specs.declared.action.Action.{Action}
use Rattle.plain_heap.specs.declared.action.Action.TheVariants.{Makes, Measures, Loads, Stores, Compares, Gets, Puts, Swaps, Snaps}
use Rattle.plain_heap.specs.Action.{action}
use Rattle.plain_heap.proofs.Calls.Named.{Names}
use Rattle.atom_store.specs.declared.reply.Reply.{Reply}
use Rattle.heap_state.specs.Configuration.{Configuration, Stands, era, memory, team}
use Rattle.record_access.specs.declared.access_stage.AccessStage.{AccessStage}
use Rattle.gc_worker.specs.declared.stage.Stage.TheVariants.{Looks, Accesses}
use Rattle.gc_worker.specs.declared.task.Task.TheVariants.{Calls}
use Rattle.record_access.specs.Access.{FitsStage, IsHeapAddress}
use Rattle.gc_worker.specs.Steps.Access.{IsAccessOf}
use Rattle.gc_worker.specs.Workers.Fits.{MayBegin, FitsCall, ExecutesAction, IsMaking}
use Rattle.gc_worker.specs.Steps.Goes.{Is, Goes}
use Rattle.gc_worker.specs.Workers.Held.{Held, at_stage, header_for, may_snap}
use Rattle.gc_worker.specs.Workers.Knows.{knows}
use Rattle.record_access.specs.Seen.{IsValueWord, word_for}
use Rattle.gc_worker.specs.Plain.Seen.{seen}
use Rattle.gc_worker.specs.Steps.Turned.{Silent, acts, begins, places, serves_snap, turned, told}
use Rattle.heap_laws.proofs.Fields.Shown.{headers_are_read}
use Rattle.gc_worker.proofs.Plain.Actions.{plain_value}
use Rattle.gc_worker.proofs.Plain.AnswerSteps.{IsIts}
use Rattle.gc_worker.proofs.Words.Eras.{board_is}
use Rattle.gc_worker.proofs.Workers.KeptParts.{refit, page_count}
use Rattle.gc_worker.proofs.Workers.ResumedMutators.{places_known, places_fit, snaps_fit}
use Rattle.gc_worker.proofs.Stages.Look.Begun.{begun_fits}
use Rattle.gc_worker.proofs.Plain.Registers.{sight, Holds, is_value, names, points, writes}
use Rattle.gc_worker.proofs.Words.RowSteps.{becomes, nothing, prepared}
use Rattle.gc_worker.proofs.Plain.WrittenRegisters.{WritesRegister}

module _ (c : Configuration) (p : Plain) (s : Stands c p) (k : ℕ) (y : Held) where
  abbrev x : Held
  x = at_stage y Looks

  module _ (is : Is c k x) (unended : x.account.end ≡ None) (q : Mutator) (its : IsIts c p s k x q) (instr : Instr) (task : x.task ≡ Some (Calls instr)) (reply : Reply) (silent : told x reply ≡ Silent) where
    call : FitsCall x.account x.registers instr
    call = subst (MayBegin x.account x.registers) task is.fits.task

    abbrev Acts : Action → Type 0
    Acts act = action (seen x.account x.registers) instr ≡ Ok act

    executes : (act : Action) → Acts act → ExecutesAction x.account x.registers x.task act
    executes act is_act = record { instr = instr; task_is = task; call = call; acts = is_act }

    -- ---- an allocation

    pub makes : (kind : Kind) (d n : ℕ) (v : Value) → Acts (Makes kind d n v) → turned x reply ≡ at_stage (begins x) (places (begins x) (header_for (begins x))) → Goes c p s k None x reply
    makes kind d n v is_act same =
        let making : IsMaking x.account x.registers x.task = record { making = record { kind = kind; into = d; len = n }; value = v; executes = executes (Makes kind d n v) is_act } in
        becomes c p s k x None reply (at_stage (begins x) (places (begins x) (header_for (begins x)))) s.ghost same is.below
        (nothing c p s k x is (knows (at_stage (begins x) (places (begins x) (header_for (begins x))))) (sym (places_known (begins x) (header_for (begins x))))) silent refl tt
        (places_fit c.pages c.mutators k (begins x) (begun_fits c.pages c.mutators k y is.fits) is.fits.end is.fits.side making)

    -- ---- a checkpoint

    pub snaps : may_snap x ≡ true → Acts Snaps → turned x reply ≡ at_stage (begins x) (serves_snap (begins x)) → Goes c p s k None x reply
    snaps may is_act same =
        becomes c p s k x None reply (at_stage (begins x) (serves_snap (begins x))) s.ghost same is.below
        (nothing c p s k x is (knows (at_stage (begins x) (serves_snap (begins x)))) refl) silent refl tt
        (snaps_fit c.pages c.mutators k (begins x) (begun_fits c.pages c.mutators k y is.fits) is.fits.end is.fits.side (executes Snaps is_act) may)

    -- ---- an access

    named : (act : Action) → Acts act → Names (Holds c p s k x is refl unended q its) ⊤ (sight c p s k x is refl unended) act
    named = names c p s k x is refl unended q its instr call.valid

    small_in : (act : Action) → Acts act → WritesRegister act
    small_in = writes c p s k x is refl unended q its instr call.valid

    -- a record that a register leads to lies in the heap
    in_heap : (i : Identity) → Holds c p s k x is refl unended q its (Reference i) → IsHeapAddress x.layout.pages i.serial
    in_heap i holds =
        let led = headers_are_read (era c) (memory c) (team c) s.ghost p k (pointer_word i.serial) i.serial (prepared c p s k x is) s.shown holds.held
        (points s.ghost.identity i.serial (s.ghost.identity i.serial) holds.denotes) in
        let inside = led.inside.1 in
        let below = (prepared c p s k x is).laid_out.below in
        let board = board_is c in
        let pages = is.fits.pages in
        omega (arith, inside, below, board, pages)

    value : (v : Value) → Holds c p s k x is refl unended q its v → IsValueWord (word_for v)
    value v holds = is_value s.ghost.identity (word_for v) (plain_value s.ghost.identity v) holds.denotes

    -- the access at this stage
    abbrev at : AccessStage → Held
    at stage = at_stage (begins x) (Accesses (record { spaces = x.layout; epoch = x.epoch; stage = stage }))

    access : (act : Action) (stage : AccessStage) → Acts act → IsAccessOf act stage → FitsStage x.layout.pages stage → knows x ≡ knows (at stage) → turned x reply ≡ at stage → Goes c p s k None x reply
    access act stage is_act of fits same turns =
        becomes c p s k x None reply (at stage) s.ghost turns is.below (nothing c p s k x is (knows (at stage)) same) silent refl tt
        (refit c.pages c.mutators k (begins x) (begun_fits c.pages c.mutators k y is.fits) (Accesses (record { spaces = x.layout; epoch = x.epoch; stage = stage })) is.fits.end is.fits.side
        (record { act = act; executes = executes act is_act; is = of })
        (record { layout = refl; epoch = refl; sound = record { pages = page_count c.pages c.mutators k x is.fits; stage = fits } }))

    pub measures : (d : ℕ) (i : Identity) → Acts (Measures d i) → turned x reply ≡ acts (begins x) (Measures d i) → Goes c p s k None x reply
    measures d i is_act turns = access (Measures d i) _ is_act refl (in_heap i (named (Measures d i) is_act), small_in (Measures d i) is_act) refl turns

    pub loads : (d : ℕ) (i : Identity) (n : ℕ) → Acts (Loads d i n) → turned x reply ≡ acts (begins x) (Loads d i n) → Goes c p s k None x reply
    loads d i n is_act turns = access (Loads d i n) _ is_act refl (in_heap i (named (Loads d i n) is_act), small_in (Loads d i n) is_act) refl turns

    pub stores : (i : Identity) (n : ℕ) (v : Value) → Acts (Stores i n v) → turned x reply ≡ acts (begins x) (Stores i n v) → Goes c p s k None x reply
    stores i n v is_act turns = let held = named (Stores i n v) is_act in
        access (Stores i n v) _ is_act refl (in_heap i held.0, value v held.1) refl turns

    pub exchanges : (d : ℕ) (i : Identity) (n : ℕ) (u v : Value) → Acts (Compares d i n u v) → turned x reply ≡ acts (begins x) (Compares d i n u v) → Goes c p s k None x reply
    exchanges d i n u v is_act turns = let held = named (Compares d i n u v) is_act in
        access (Compares d i n u v) _ is_act refl (in_heap i held.0, (small_in (Compares d i n u v) is_act, value v held.2)) refl turns

    pub gets : (d n : ℕ) → Acts (Gets d n) → turned x reply ≡ acts (begins x) (Gets d n) → Goes c p s k None x reply
    gets d n is_act turns = access (Gets d n) _ is_act refl ((named (Gets d n) is_act).1, small_in (Gets d n) is_act) refl turns

    pub puts : (n : ℕ) (v : Value) → Acts (Puts n v) → turned x reply ≡ acts (begins x) (Puts n v) → Goes c p s k None x reply
    puts n v is_act turns = access (Puts n v) _ is_act refl ((named (Puts n v) is_act).1, tt) refl turns

    pub swaps : (d n : ℕ) (v : Value) → Acts (Swaps d n v) → turned x reply ≡ acts (begins x) (Swaps d n v) → Goes c p s k None x reply
    swaps d n v is_act turns = access (Swaps d n v) _ is_act refl ((named (Swaps d n v) is_act).1, small_in (Swaps d n v) is_act) refl turns
