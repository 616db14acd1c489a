use Rattle.std.proofs.Common.{ap, ap₂, codes, true, ◌∙◌}
use Rattle.std.proofs.lemmas.Result.{IfOk-weaker}
use Rattle.clap.specs.Simple.{App, Shape, app_of_fields, new_app, on_top}
use Rattle.clap.specs.Words.{with_subcommand}
use Rattle.ael_jobs.proofs.arguments.command_line.with_asm.Goals as goal

pub returns : goal.returns
returns c =
    let unbound = on_top (λ (s : Shape). record s { no_binary_name = true }) (new_app (codes "ael")) in
    let flagless = on_top (λ (s : Shape). record s { disable_help_flag = true }) unbound in
    let named = ap app_of_fields c.no_binary_name.ensures ∙ ap (on_top (λ (s : Shape). record s { no_binary_name = true })) c.new.ensures.app in
    let no_flag = ap app_of_fields c.disable_help_flag.ensures ∙ ap (on_top (λ (s : Shape). record s { disable_help_flag = true })) {y = unbound} named in
    let bare = ap app_of_fields c.disable_help_subcommand.ensures ∙ ap (on_top (λ (s : Shape). record s { disable_help_subcommand = true })) {y = flagless} no_flag in
    IfOk-weaker c.subcommand.result _ _ (λ r h. h.shape c.new-2.ensures.local ∙ ap₂ with_subcommand bare (ap (λ (a : App). a.top) c.new-2.ensures.app)) c.subcommand.ensures
