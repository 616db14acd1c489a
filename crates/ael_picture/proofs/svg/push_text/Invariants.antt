use Rattle.std.proofs.Common.{◌≡◌, ◌++◌, string_bytes}
use Rattle.std.specs.List.{flat_map}
use Rattle.std.specs.Str.{chars, IsUtf8}
use Rattle.ael_picture.specs.Markup.{escaped}
use Rattle.ael_picture.proofs.svg.push_text.Given as goal

abbrev pub invariant-loop-c : goal.invariant-loop-c
invariant-loop-c l = record {
  so_far : string_bytes l.out ≡ string_bytes l.fn.out ++ flat_map escaped l.yielded;
  left : chars l.text ≡ l.yielded ++ chars l.c-iterator.rest.now;
  utf8 : IsUtf8 l.c-iterator.rest.now;
}
