use Rattle.sv_container.proofs.Prelude.{sym, ◌∙◌, refl, FilterKeeps, ServletKeeps}
use Rattle.sv_container.proofs.LifeLemmas.{able_by_rows, all_keep, all_launched, filters_serving, same_identities, serving_of}
use Rattle.sv_container.proofs.application.Application.launch.Goals as goal

pub returns-clause-sound : goal.returns-clause-sound
returns-clause-sound g c = record {
  servlets = all_launched g.S.Servlet.serves g.S.Servlet.servlet_phase ServletKeeps _ _ c.init_servlets.ensures;
  filters = all_launched g.F.Filter.filtering g.F.Filter.filter_phase FilterKeeps _ _ c.init_filters.ensures;
  keeps = record {
    servlets = all_keep g.S.Servlet.serves g.S.Servlet.servlet_phase ServletKeeps _ _ c.init_servlets.ensures;
    filters = all_keep g.F.Filter.filtering g.F.Filter.filter_phase FilterKeeps _ _ c.init_filters.ensures;
  };
  serving = λ h.
      let s = serving_of _ _ _ _ _ _ (sym c.can_serve-self.ensures ∙ h) in
      record {
        number = s.numbered;
        path = s.sendable;
        name = s.nameable;
        filters = filters_serving g.F.Filter.filtering g.F.Filter.filter_phase _ _ _ _ _ (all_launched g.F.Filter.filtering g.F.Filter.filter_phase FilterKeeps _ _ c.init_filters.ensures) (sym c.can_serve-self.ensures ∙ h);
      };
}

pub returns-clause-plan : goal.returns-clause-plan
returns-clause-plan g c = rw (
  same_identities g.S.Servlet.serves g.S.Servlet.servlet_phase ServletKeeps _ _ c.init_servlets.ensures,
  same_identities g.F.Filter.filtering g.F.Filter.filter_phase FilterKeeps _ _ c.init_filters.ensures,
) refl

pub returns-clause-service : goal.returns-clause-service
returns-clause-service g c = c.can_serve-self.ensures ∙ able_by_rows g.F.Filter.filtering g.F.Filter.filter_phase _ _ _ _ _
