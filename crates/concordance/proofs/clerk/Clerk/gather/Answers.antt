use Rattle.std.proofs.Common.{◌≤◌, ◌<◌, ◌∙◌, refl, List, [], flat_map, length, arith, sym, subst}
use Rattle.std.proofs.lemmas.Bool.{lt-ltb}
use Rattle.std.proofs.lemmas.List.{take_all}
use Rattle.plain_state.specs.declared.sizes.TheConstants.{NUMBERS}
use Rattle.ael_threads.specs.Seats.{plain_after_seen}
use Rattle.concordance_text.specs.declared.part.Part.{Part}
use Rattle.concordance_text.specs.Parts.{mentions_of_part}
use Rattle.concordance_text.specs.Rows.{AreRowsOf, rows_of}
use Rattle.concordance.proofs.Gathered.TextParts.{no_rows, part_gathered, part_leads}
use Rattle.concordance.proofs.Gathered.NotedPlaces.{read_nothing, read_on}
use Rattle.concordance.proofs.Gathered.Reads.{whole_heap}
use Rattle.concordance.proofs.clerk.Clerk.gather.Goals as goal

pub loop-number-init : goal.loop-number-init
loop-number-init g c = record {
  read = read_nothing c.args.self.now c.requires.all;
  rows = subst (AreRowsOf []) (sym c.requires.none) no_rows;
}

pub gets-requires-clause-valid : goal.gets-requires-clause-valid
gets-requires-clause-valid g c =
    let within : c.loop-number.number < length c.args.parts.now = c.loop-number-test.true in
    let small : c.loop-number.number < NUMBERS = omega (arith, within, c.requires.few) in
    rw (lt-ltb c.loop-number.number NUMBERS small) refl

pub gets-requires-clause-can : goal.gets-requires-clause-can
gets-requires-clause-can g c =
    let within : c.loop-number.number < length c.args.parts.now = c.loop-number-test.true in
    omega (arith, within, c.requires.few)

pub gather_entries-requires-clause-leads : goal.gather_entries-requires-clause-leads
gather_entries-requires-clause-leads g c =
    let s = c.loop-number.self in
    let k = c.loop-number.number in
    let parts = c.args.parts.now in
    let heap = (plain_after_seen c.args.self.now.knows).heap in
    let same = c.loop-number.invariant.read.heap ∙ whole_heap c.args.self.now in
    let within : k < length parts = c.loop-number-test.true in
    part_leads heap parts c.requires.noted c.requires.numbered s c.gets.new.self 2 k same c.gets.ensures within

pub loop-number-preserved : goal.loop-number-preserved
loop-number-preserved g c =
    let a = c.args.self.now in
    let s = c.loop-number.self in
    let k = c.loop-number.number in
    let parts = c.args.parts.now in
    let heap = (plain_after_seen a.knows).heap in
    let same = c.loop-number.invariant.read.heap ∙ whole_heap a in
    let within : k < length parts = c.loop-number-test.true in
    let led = part_leads heap parts c.requires.noted c.requires.numbered s c.gets.new.self 2 k same c.gets.ensures within in
    record {
      read = read_on a s c.gather_entries.new.self c.loop-number.invariant.read (read_on s c.gets.new.self c.gather_entries.new.self c.gets.ensures.read c.gather_entries.ensures.read);
      rows = part_gathered heap parts c.requires.noted c.requires.numbered c.requires.in_order k within (rows_of c.loop-number.words) (rows_of c.gather_entries.new.words) c.loop-number.invariant.rows
          (c.in_ok-gather_entries.ensures.rows led);
    }

pub returns-clause-rows : goal.returns-clause-rows
returns-clause-rows g c =
    let parts = c.args.parts.now in
    let past : length parts ≤ c.loop-number.number = c.loop-number-test.false in
    subst (λ (ps : List Part). AreRowsOf (flat_map mentions_of_part ps) (rows_of c.loop-number.words)) (take_all c.loop-number.number parts past) c.loop-number.invariant.rows
