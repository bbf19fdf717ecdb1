-- The bytes of client/map.js. tools/client --write wrote this.
use Rattle.std.specs.Prelude.{ℕ, List, codes}

-- the file `map.js`
unfoldable pub map_js : List ℕ
map_js = codes "// The page of the map: reads what is asserted, with progress, and shows the drawing.\nimport { attempt, button, complain, count, explained, fill, make } from './page.js';\nimport { gather } from './mapfacts.js';\nimport { draw } from './mapdrawing.js';\n\nconst DRAWN_AT_FIRST = 12;\nconst ZOOMS = [0.4, 0.55, 0.75, 1, 1.35, 1.8];\n\nexport function mapView() {\n    const state = { stopped: false };\n    const content = make('div', {});\n    const element = make('div', { class: 'map-page' }, make('h1', {}, 'Map'),\n        make('p', { class: 'quiet' }, 'Classes, each beside the one above it, with the names that are in them, and the relations between names: what is asserted in so many words, not what follows from it.'), content);\n    attempt(() => readAndDraw(content, state));\n    return { element, title: 'Map', close: () => { state.stopped = true; } };\n}\n\nasync function readAndDraw(content, state) {\n    const bar = make('progress', { max: 1, value: 0, 'aria-label': 'Articles read' });\n    const told = make('p', { role: 'status' }, 'Reading\\u2026');\n    fill(content, told, bar, make('div', { class: 'row' }, make('button', { type: 'button', onclick: () => { state.stopped = true; } }, 'Stop')));\n    const facts = await gather((read, all) => {\n        [bar.max, bar.value] = [all, read];\n        return !state.stopped;\n    }).catch((error) => { complain(explained(error)); return null; });\n    if (facts !== null) { return show(content, facts, state); }\n    state.stopped = false;\n    return fill(content, make('p', {}, 'Stopped before all was read.'), button('Read on', () => readAndDraw(content, state)));\n}\n\nfunction show(content, facts, state) {\n    const drawing = draw(facts);\n    const roles = [...new Set(drawing.edges.map((edge) => edge.role))].sort();\n    const choice = make('select', { id: 'map-relations' }, [['', 'of the name that is pointed at'], ['all', 'all'], ...roles.map((role) => [':' + role, role])].map(([value, label]) => make('option', { value }, label)));\n    const pick = () => drawing.edges.forEach((edge) => edge.element.classList.toggle('shown', choice.value === 'all' || choice.value === ':' + edge.role));\n    choice.value = drawing.edges.length <= DRAWN_AT_FIRST ? 'all' : '';\n    choice.addEventListener('change', pick);\n    pick();\n    let at = ZOOMS.indexOf(1);\n    const zoom = (by) => {\n        at = Math.min(Math.max(at + by, 0), ZOOMS.length - 1);\n        ['width', 'height'].forEach((side) => drawing.element.setAttribute(side, String(drawing[side] * ZOOMS[at])));\n    };\n    zoom(0);\n    const others = facts.others === 0 ? '' : ` ${count(facts.others, 'axiom')} of other kinds can't be drawn.`;\n    fill(content,\n        make('div', { class: 'row map-tools' }, make('label', { for: 'map-relations' }, 'Relations shown'), choice,\n            button('\\u2212', () => zoom(-1), { 'aria-label': 'Smaller' }), button('+', () => zoom(1), { 'aria-label': 'Larger' }), button('Read again', () => readAndDraw(content, state))),\n        make('p', { class: 'quiet', role: 'status' }, `${count(facts.classes.length, 'class').replace(/classs$/, 'classes')}, ${count(facts.names.length, 'name')}, ${count(drawing.edges.length, 'relation')}.${others}`),\n        make('div', { class: 'map-frame', tabindex: '0', role: 'region', 'aria-label': 'The drawing; it can be scrolled' }, drawing.element));\n}\n"
