use Rattle.std.proofs.Common.{◌≡◌, ◌≤◌, ℕ, List, length, refl, sym, subst}
use Rattle.otp_tool.specs.{Files.IsHeld, Steps.change_of}
use Rattle.otp_tool.proofs.TableauLemmas.{no_file_loaded, no_form_read, no_tableau, tableau_written}
use Rattle.otp_tool.proofs.tableaux.tabulate.Goals as goal

pub returns-in-Err-clause-work : goal.returns-in-Err-clause-work
returns-in-Err-clause-work g c = no_form_read c.args.grammar.now _ c.args.rows.now c.args.budget _ refl _
    c.in-Err.ensures.err

pub returns-in-Err-load_second-clause-work : goal.returns-in-Err-load_second-clause-work
returns-in-Err-load_second-clause-work g c = no_file_loaded c.args.grammar.now _ _ c.args.budget _ c.in-Ok.ensures.ok _
    refl _ c.in-Err-load_second.ensures.err

pub returns-clause-work : goal.returns-clause-work
returns-clause-work g c =
    let same = c.deref.ensures.value in
    no_tableau c.args.grammar.now _ _ _ _ c.in-Ok.ensures.ok _ (rw same c.in-Ok-load_second.ensures.within) _
    (rw same c.in-Ok-load_second.ensures.ok) refl _ c.in-Err-make_tableau.ensures.err

pub returns-in-Ok-make_tableau-clause-work : goal.returns-in-Ok-make_tableau-clause-work
returns-in-Ok-make_tableau-clause-work g c =
    let same : c.deref.result.now ≡ c.in-Ok-load_second.bytes.items = c.deref.ensures.value in
    tableau_written c.args.grammar.now c.args.form.now c.args.rows.now c.args.budget c.in-Ok.form c.in-Ok.ensures.ok
    c.deref.result.now
    (subst (λ (b : List ℕ). length b ≤ 4194304) (sym same) c.in-Ok-load_second.ensures.within)
    c.in-Ok-make_tableau.made c.in-Ok-make_tableau.ensures.ok
    g.F.Shelf g.O.Sink c.args.shelf.now c.load_second.new.shelf c.args.sink.now c.put_tableau.new.sink
    (subst (IsHeld (g.F.Shelf.held c.args.shelf.now c.args.rows.now)) (sym same) c.in-Ok-load_second.ensures.ok)
    c.put_tableau.result c.put_tableau.ensures c.write_status.result c.write_status.ensures
