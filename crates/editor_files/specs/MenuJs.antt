-- The bytes of client/menu.js. tools/client --write wrote this.
use Rattle.std.specs.Prelude.{ℕ, List, codes}

-- the file `menu.js`
unfoldable pub menu_js : List ℕ
menu_js = codes "// The menu of tokens that may follow, in its groups, with one of them marked.\nimport { plain } from './lexicon.js';\nimport { fill, freshId, make } from './page.js';\n\nconst GROUPS = [['function', 'Function words'], ['name', 'Names'], ['noun', 'Nouns'], ['of', 'Of-constructs'], ['verb', 'Verbs'], ['adjective', 'Adjectives']];\nconst SHOWN_OF_A_GROUP = 60;\n\nexport class Menu {\n    // `take` is called with the token that is clicked, `onMarked` with the element that is marked, or null.\n    constructor(take, onMarked) {\n        this.id = freshId('menu');\n        Object.assign(this, { onMarked, groups: [], plain: new Map(), options: [], at: -1 });\n        const click = (event) => {\n            const option = this.options.find((it) => it.element.contains(event.target));\n            if (option) { take(option.token); }\n        };\n        this.element = make('div', { id: this.id, class: 'menu', role: 'listbox', 'aria-label': 'Words that can come next', onclick: click, onmousedown: (event) => event.preventDefault() });\n    }\n\n    set(menu) {\n        this.groups = GROUPS.map(([name]) => (menu ? menu[name] : []));\n        this.plain = new Map(this.groups.flat().map((token) => [token, plain(token)]));\n    }\n\n    has(token) {\n        return this.groups.some((tokens) => tokens.includes(token));\n    }\n\n    // The text as the menu spells it, where just one of its tokens is like it.\n    spelled(text) {\n        const alike = this.has(text) ? [text] : this.groups.flat().filter((token) => this.plain.get(token) === plain(text));\n        return alike.length === 1 ? alike[0] : text;\n    }\n\n    // Shows what fits the filter; of a text with spaces its first word counts.\n    filter(typed) {\n        const wanted = plain(typed.trim().split(/\\s/)[0]);\n        const fits = this.groups.map((tokens) => tokens.filter((token) => this.plain.get(token).includes(wanted)));\n        this.options = fits.flatMap((tokens, group) => tokens.slice(0, SHOWN_OF_A_GROUP).map((token) => (\n            { token, group, element: make('div', { id: freshId('option'), role: 'option', 'aria-selected': 'false' }, make('bdi', {}, token)) })));\n        fill(this.element, fits.map((tokens, group) => this.column(GROUPS[group][1], this.options.filter((it) => it.group === group), tokens.length)));\n        this.mark(wanted === '' && this.options.length !== 1 ? -1 : this.best(wanted));\n    }\n\n    column(title, options, all) {\n        const id = freshId('group');\n        const left = all - options.length;\n        return make('div', { class: 'group' + (all === 0 ? ' empty' : ''), role: 'group', 'aria-labelledby': id },\n            make('div', { id, class: 'group-name', role: 'presentation' }, title), options.map((option) => option.element),\n            left > 0 ? make('div', { class: 'quiet', role: 'presentation' }, `${left} more: type to find them`) : null);\n    }\n\n    best(wanted) {\n        const same = this.options.findIndex((option) => this.plain.get(option.token) === wanted);\n        return same >= 0 ? same : Math.max(this.options.findIndex((option) => this.plain.get(option.token).startsWith(wanted)), 0);\n    }\n\n    mark(at) {\n        if (this.options[this.at]) { this.options[this.at].element.setAttribute('aria-selected', 'false'); }\n        const { element } = this.options[at] || { element: null };\n        this.at = element ? at : -1;\n        if (element) {\n            element.setAttribute('aria-selected', 'true');\n            element.scrollIntoView({ block: 'nearest' });\n        }\n        this.onMarked(element);\n    }\n\n    marked() {\n        return this.at < 0 ? null : this.options[this.at].token;\n    }\n\n    step(by) {\n        const all = this.options.length;\n        this.mark(this.at < 0 ? (by > 0 ? 0 : all - 1) : (this.at + by + all) % all);\n    }\n\n    // To the first token of the next group that has any.\n    stepGroup(by) {\n        const groups = [...new Set(this.options.map((option) => option.group))];\n        const here = this.at < 0 ? (by > 0 ? -1 : 0) : groups.indexOf(this.options[this.at].group);\n        const group = groups[(here + by + groups.length) % groups.length];\n        this.mark(this.options.findIndex((option) => option.group === group));\n    }\n}\n"
