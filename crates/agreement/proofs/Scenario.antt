-- The five marks of the scenario, from the computed ones of the crate history. Assumes nothing.
use Rattle.history.proofs.Figure1.{figure_1, needed}
use Rattle.agreement.specs.Scenario.{Scenario, WrongReadings}

pub scenario : Scenario
scenario = record {
  o11 = record { before = figure_1.o11.before; vector = figure_1.o11.vector };
  o21 = record { before = figure_1.o21.before; vector = figure_1.o21.vector };
  o31 = record { before = figure_1.o31.before; vector = figure_1.o31.vector };
  o12 = record { before = figure_1.o12.before; vector = figure_1.o12.vector };
  o22 = record { before = figure_1.o22.before; vector = figure_1.o22.vector };
  o32 = record { before = figure_1.o32.before; vector = figure_1.o32.vector };
}

pub wrong_readings : WrongReadings
wrong_readings = record {
  executed_later = needed.executed-later;
  generated_later = needed.generated_later;
  between = needed.between;
  interrupted = needed.interrupted;
}
