use Rattle.std.proofs.Common.{◌∷◌, [], map, sym}
use Rattle.std.proofs.lemmas.List.{map-append}
use Rattle.dump_text.specs.Pieces.{kept_read_at, kept_view}
use Rattle.dump_text.proofs.Loop.{goes_on, is_done, stops}
use Rattle.dump_text.proofs.lines.all_kept.Goals as goal

pub returns-in_default : goal.returns-in_default
returns-in_default c = stops kept_read_at (map kept_view c.loop-i.found.items) c.args.count c.loop-i.i c.args.line c.loop-i.rest.now _ c.loop-i-test.true (sym c.in_default.ensures) c.loop-i.invariant

pub loop-i-preserved : goal.loop-i-preserved
loop-i-preserved c = rw (c.in_ok-push.ensures.items, map-append kept_view c.loop-i.found.items (c.in-Some.kept ∷ [])) (goes_on kept_read_at (map kept_view c.loop-i.found.items) c.args.count c.loop-i.i c.args.line c.loop-i.rest.now _ (kept_view c.in-Some.kept) c.in-Some.after.now c.loop-i-test.true (sym c.in-Some.ensures) c.loop-i.invariant)

pub returns : goal.returns
returns c = is_done kept_read_at (map kept_view c.loop-i.found.items) c.args.count c.loop-i.i c.args.line c.loop-i.rest.now _ c.loop-i-test.false c.loop-i.invariant
