-- The longest files that are fit.
use Rattle.std.specs.Prelude.{ℕ, ◌+◌, ◌*◌}
use Rattle.logic.specs.declared.FileLayout.{FileLayout}
use Rattle.logic.specs.Tower.{most_actions}
use Rattle.logic.specs.TableFile.{most_rows, step_size, steps_at}

-- a tower with the most actions and states
unfoldable pub longest_tower : FileLayout → ℕ
longest_tower layout = layout.header + 2 * most_actions + (2 + layout.width * most_actions) * layout.most

-- a table with the most rows, each with a step for each of the most actions
unfoldable pub longest_table : FileLayout → ℕ
longest_table layout = steps_at layout most_rows + step_size * (most_rows * most_actions)
