-- The state that a watched hart stands for, and what a watch stands for.
use Rattle.sq_system.specs.World.{World}
use Rattle.law_program.specs.Programs.{Text}
use Rattle.law_program.specs.Monitored.{Watched}
use Rattle.sq_tagged.specs.Views.{layout_of, registers_of, store_of}
use Rattle.sq_monitor.specs.declared.hart.Hart.{Hart}
use Rattle.sq_monitor.specs.declared.watch.Watch.{Watch}

unfoldable pub watched_of : Hart → Watched
watched_of h = record { pc = h.pc; core = record { registers = registers_of h.registers; store = store_of h.store } }

-- memory as it is laid out, the words of text, and the state
abbrev pub watch_layout : Watch → World
watch_layout w = layout_of w.scene.setting

abbrev pub watch_text : Watch → Text
watch_text w = w.scene.text

abbrev pub watch_state : Watch → Watched
watch_state w = watched_of w.hart
