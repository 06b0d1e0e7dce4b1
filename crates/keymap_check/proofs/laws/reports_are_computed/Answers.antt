use Rattle.keymap_check.proofs.Bearing as bearing
use Rattle.keymap_check.proofs.Findings as findings
use Rattle.keymap_check.proofs.FirstPlaces as first_places
use Rattle.keymap_check.proofs.laws.reports_are_computed.Goals as goal

pub returns-clause-findings : goal.returns-clause-findings
returns-clause-findings c = first_places.findings_are_computed

pub returns-clause-safe : goal.returns-clause-safe
returns-clause-safe c = findings.no_findings_exactly_if_safe

pub returns-clause-bearers : goal.returns-clause-bearers
returns-clause-bearers c = bearing.bearers_are_computed

pub returns-clause-steady : goal.returns-clause-steady
returns-clause-steady c = bearing.steady_locks_are_computed
