use Rattle.std.proofs.Common.{◌^◌, length, ◌≡◌, ap, ap₂, rules, sym, ◌∙◌, arith}
use Rattle.std.specs.Global.{Vec}
use Rattle.std.specs.Prelude.{ℕ}
use Rattle.rand_xoshiro.specs.SplitMix64.{next_state}
use Rattle.benchmark.specs.Text.{bench_text, sections_text}
use Rattle.benchmark.specs.declared.keys.TheConstants.{MUTATORS}
use Rattle.benchmark.proofs.Bounds.{pow_from_1_to_9}
use Rattle.benchmark.proofs.Sections.{text_short}
use Rattle.benchmark.proofs.SeedWords.{iterate_two, one_more}
use Rattle.benchmark.proofs.text.bench_text.Goals as goal

pub loop-preserved : goal.loop-preserved
loop-preserved c = record {
  words = c.draw.ensures.later ∙ rw c.loop.invariant.words (sym (iterate_two next_state c.loop.counter c.args.seed));
  text = one_more _ _ _ _ _ _ _ c.loop.invariant.words c.loop.invariant.text c.draw.ensures.keys c.in_ok-push_section.ensures;
}

pub loop-init : goal.loop-init
unfolding sections_text
loop-init c = record { words = search rules; text = search rules }

pub returns : goal.returns
returns c =
    let all : c.loop.counter ≡ MUTATORS = omega arith in
    let count = c.key_count-count.ensures.exact in
    let exact : c.into_bytes.result.items ≡ bench_text c.args.depth c.args.seed = ap (λ (v : Vec ℕ). v.items) c.into_bytes.ensures.value ∙ c.loop.invariant.text ∙ ap₂ (λ n m. sections_text n c.args.seed m) count all in
    let bounds = pow_from_1_to_9 c.args.depth c.requires.some c.requires.few in
    record { exact = exact; short = omega (arith, ap length exact, text_short (2 ^ c.args.depth) c.args.seed bounds.0 bounds.1) }
