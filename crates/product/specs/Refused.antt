-- Why nothing is written, and what the entries return. Assumes nothing: these are definitions.
use Rattle.std.specs.Prelude.{ℕ, Result, Ok, Err}
use Rattle.model.specs.Refusals.{number}
use Rattle.model.specs.declared.Built.{Built}
use Rattle.model.specs.declared.Charted.{Charted}
use Rattle.model.specs.declared.refusal.Refusal.{Refusal}
use Rattle.model.specs.declared.refusal.Refusal.TheVariants.{ChartFault}
use Rattle.chart.specs.declared.NoChart.{NoChart}
use Rattle.chart.specs.declared.NoChart.TheVariants.{Fault, Bad}
use Rattle.product.specs.declared.refused.Refused.{Refused}

-- a REFUSAL of the whole, without a pair: by its number, or by its name; and a chart's
abbrev pub refused_as : ℕ → Refused
refused_as k = record { refusal = k; mode = 0; combination = 0 }

abbrev pub refused_by : Refusal → Refused
refused_by k = refused_as (number k)

abbrev pub refused_pair : Charted → Refused
refused_pair c = record { refusal = c.refusal; mode = c.mode; combination = c.combination }

abbrev pub refused_chart : NoChart → Refused
refused_chart Fault = refused_by ChartFault
refused_chart (Bad h c) = refused_pair c

-- what is returned where so many bytes are written, or none
abbrev pub built_as : Result ℕ Refused → Built
built_as (Ok n) = record { refusal = 0; mode = 0; combination = 0; written = n }
built_as (Err r) = record { refusal = r.refusal; mode = r.mode; combination = r.combination; written = 0 }
